-- The parts of a send or a constructor, evaluated from the left.
use Rattle.std.proofs.Common.{◌≡◌, ◌∙◌, ℕ, ◌+◌, ◌<◌, ◌≤◌, List, [], ◌∷◌, ◌++◌, map, length, get_or, drop, refl, sym, ap, append_assoc, append-nil}
use Rattle.std.proofs.lemmas.List.{drop_more}
use Rattle.std.proofs.Math.ListN.{drop_of_length-le}
use Rattle.vx_syntax.specs.declared.decl.Decl.{Decl}
use Rattle.vx_syntax.specs.declared.expr.Expr.{Expr}
use Rattle.vx_syntax.specs.Expressions.{Bytes}
use Rattle.vx_model.specs.declared.value.Value.{Value}
use Rattle.vx_model.specs.Meaning.{State, Done, Gives, Allowance, Frame, after, allowance, expression}
use Rattle.vx_meaning.specs.States.{done, listed}
use Rattle.vx_meaning.specs.declared.memory.Memory.{Memory}
use Rattle.vx_meaning.specs.declared.memory.Outcome.{Outcome}
use Rattle.vx_meaning.specs.declared.memory.Outcome.TheVariants as o
use Rattle.vx_meaning.proofs.Rows.{listed_same}

-- what is evaluated, and in which activation
pub record Parts (X : Type 0) : Type 0 where
  pub program : List Decl
  pub part_in : X → Expr
  pub list : List X
  pub lower : Allowance
  pub frame : Frame

abbrev pub sent : List Decl → List Expr → ℕ → Frame → Parts Expr
sent program arguments g frame = record { program = program; part_in = λ one. one; list = arguments; lower = allowance program g; frame = frame }

abbrev pub constructed : List Decl → List (Bytes × Expr) → ℕ → Frame → Parts (Bytes × Expr)
constructed program fields g frame = record { program = program; part_in = λ field. field.1; list = fields; lower = allowance program g; frame = frame }

-- where some have values already
abbrev pub left : {X : Type 0} → Parts X → ℕ → List Value → State → (List Value → State → Done) → Done
left all i values state go = listed all.program (map all.part_in (drop i all.list)) all.lower all.frame state (λ rest. go (values ++ rest))

-- the part that is next, behind the values that are there, and what follows them all
module _ {X : Type 0} (all : Parts X) (i : ℕ) (part : X) (values : List Value) (state : State) (go : List Value → State → Done) where
  abbrev behind : Value → State → Done
  behind value state' = listed all.program (map all.part_in (drop (i + 1) all.list)) all.lower all.frame state' (λ rest. go (values ++ value ∷ rest))

  more : i < length all.list → part ≡ get_or all.list i part →
      left all i values state go ≡ after (expression all.program (all.part_in part) all.lower all.frame state) behind
  more within is =
      ap (λ l. listed all.program (map all.part_in l) all.lower all.frame state (λ rest. go (values ++ rest))) (drop_more all.list i part within)
      ∙ ap (λ one. after (expression all.program (all.part_in one) all.lower all.frame state) behind) (sym is)

  -- it gives a value
  pub part_gives : i < length all.list → part ≡ get_or all.list i part → (value : Value) (state' : State) →
      expression all.program (all.part_in part) all.lower all.frame state ≡ Gives value state' →
      left all i values state go ≡ left all (i + 1) (values ++ value ∷ []) state' go
  part_gives within is value state' gives =
      more within is
      ∙ ap (λ done. after done behind) gives
      ∙ listed_same all.program all.lower all.frame (map all.part_in (drop (i + 1) all.list)) state'
      (λ rest. go (values ++ value ∷ rest)) (λ rest. go ((values ++ value ∷ []) ++ rest))
      (λ rest state. ap (λ l. go l state) (sym (append_assoc values (value ∷ []) rest)))

  -- or it stops
  pub part_stops : i < length all.list → part ≡ get_or all.list i part → (done : Done) →
      expression all.program (all.part_in part) all.lower all.frame state ≡ done →
      ((go : Value → State → Done) → after done go ≡ done) → left all i values state go ≡ done
  part_stops within is done stops stays = more within is ∙ ap (λ done. after done behind) stops ∙ stays behind

-- past the last part
pub parts_end : {X : Type 0} (all : Parts X) (i : ℕ) (values : List Value) (state : State) (go : List Value → State → Done) → length all.list ≤ i →
    left all i values state go ≡ go values state
parts_end all i values state go over =
    ap (λ l. listed all.program (map all.part_in l) all.lower all.frame state (λ rest. go (values ++ rest))) (drop_of_length-le all.list over)
    ∙ ap (λ l. go l state) (append-nil values)

-- an outcome that gives no value stays, whatever follows
pub stays : (outcome : Outcome) (memory : Memory) → ((value : Value) → outcome ≡ o.Gives value → ⊥) → (go : Value → State → Done) →
    after (done outcome memory) go ≡ done outcome memory
stays (o.Gives value) memory none go = absurd (none value refl)
stays (o.Back home value) memory none go = refl
stays (o.Fails error) memory none go = refl
stays o.Out memory none go = refl
stays o.Stuck memory none go = refl
