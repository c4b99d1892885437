-- What one token more makes of the reader's answer.
use Rattle.std.proofs.Common.{◌≡◌, ℕ, ◌<◌, ◌≤◌, true, false, if◌then◌else◌, List, ◌∷◌, Option, Some, None, Result, Err, ap, ◌∙◌}
use Rattle.std.proofs.lemmas.Bool.{cond-true, cond-false, lt-ltb, le-ltb}
use Rattle.std.specs.Prelude.{nat_lt}
use Rattle.vx_syntax.specs.Depth.{max_depth, counted, depth}
use Rattle.vx_reader.specs.declared.token.Placed.{Placed}
use Rattle.vx_reader.specs.declared.command.Command.{Command}
use Rattle.vx_reader.specs.declared.command.ReadFault.{ReadFault}
use Rattle.vx_reader.specs.declared.command.ReadFault.TheVariants as f
use Rattle.vx_reader.specs.declared.state.State.{State}
use Rattle.vx_reader.specs.CommandMachine.{command_step}
use Rattle.vx_reader.specs.Reads.{is_large_token, reading}

module _ (len : ℕ) (s : State) (levels : List ℕ) (p : Placed) (rest : List Placed) where
  -- the answer, where the token leads to a state
  abbrev judged : State → Result Command ReadFault
  judged next =
      if nat_lt max_depth (depth (counted levels p.token)) then Err (f.TooDeep p.place) else
      if is_large_token p.token then Err (f.NumberTooLarge p.place) else
      reading len next (counted levels p.token) rest

  stepped : (o : Option State) → command_step s p.token ≡ o → reading len s levels (p ∷ rest) ≡ elim o [ None ↦ Err (f.Syntax p.place) | Some next ↦ judged next ]
  stepped o is = ap (λ o. elim o [ None ↦ Err (f.Syntax p.place) | Some next ↦ judged next ]) is

  -- no command goes on with the token
  pub syntax_read : command_step s p.token ≡ None → reading len s levels (p ∷ rest) ≡ Err (f.Syntax p.place)
  syntax_read is = stepped None is

  pub deep_read : (next : State) → command_step s p.token ≡ Some next → max_depth < depth (counted levels p.token) → reading len s levels (p ∷ rest) ≡ Err (f.TooDeep p.place)
  deep_read next is deep = stepped (Some next) is ∙ cond-true _ _ _ (lt-ltb max_depth (depth (counted levels p.token)) deep)

  shallow_read : (next : State) → command_step s p.token ≡ Some next → depth (counted levels p.token) ≤ max_depth →
      reading len s levels (p ∷ rest) ≡ (if is_large_token p.token then Err (f.NumberTooLarge p.place) else reading len next (counted levels p.token) rest)
  shallow_read next is low = stepped (Some next) is ∙ cond-false _ _ _ (le-ltb max_depth (depth (counted levels p.token)) low)

  pub large_read : (next : State) → command_step s p.token ≡ Some next → depth (counted levels p.token) ≤ max_depth → is_large_token p.token ≡ true →
      reading len s levels (p ∷ rest) ≡ Err (f.NumberTooLarge p.place)
  large_read next is low large = shallow_read next is low ∙ cond-true _ _ _ large

  -- nothing is wrong with the token, and reading goes on behind it
  pub fine_read : (next : State) → command_step s p.token ≡ Some next → depth (counted levels p.token) ≤ max_depth → is_large_token p.token ≡ false →
      reading len s levels (p ∷ rest) ≡ reading len next (counted levels p.token) rest
  fine_read next is low small = shallow_read next is low ∙ cond-false _ _ _ small
