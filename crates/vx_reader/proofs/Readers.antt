-- What the reader's loop keeps, and what follows at each of its ends.
use Rattle.std.proofs.Common.{◌≡◌, ℕ, suc, ◌+◌, ◌<◌, ◌≤◌, List, ◌∷◌, length, drop, Option, Result, Ok, Err, sym, ap, subst, ◌∙◌, arith}
use Rattle.std.specs.Prelude.{slice_index_or}
use Rattle.std.proofs.Math.Seq.{drop-cons}
use Rattle.std.proofs.lemmas.List.{drop_all}
use Rattle.vx_syntax.specs.Depth.{max_depth, first_levels, depth}
use Rattle.vx_reader.specs.declared.token.Placed.{Placed}
use Rattle.vx_reader.specs.declared.levels.Levels.{Levels}
use Rattle.vx_reader.specs.declared.reader.Progress.{Progress}
use Rattle.vx_reader.specs.declared.command.Command.{Command}
use Rattle.vx_reader.specs.declared.command.ReadFault.{ReadFault}
use Rattle.vx_reader.specs.declared.command.ReadFault.TheVariants as f
use Rattle.vx_reader.specs.declared.state.State.TheVariants as st
use Rattle.vx_reader.specs.Tokens.{placed_tokens}
use Rattle.vx_reader.specs.CommandMachine.{command_finished}
use Rattle.vx_reader.specs.OpenLevels.{all, Adds}
use Rattle.vx_reader.specs.Progress.{Follows, Refuses}
use Rattle.vx_reader.specs.Reads.{ended, reading, answer, Reads, Says}

-- after so many tokens the answer is what the reader answers from here on
pub record Reading (bytes : List ℕ) (placed : List Placed) (i : ℕ) (progress : Progress) : Type 0 where
  pub adds : Adds progress.levels
  pub low : progress.levels.depth ≤ max_depth
  pub reads : answer bytes ≡ reading (length bytes) progress.state (all progress.levels) (drop i placed)

pub at_start : (bytes : List ℕ) (placed : List Placed) (levels : Levels) → placed ≡ placed_tokens bytes → all levels ≡ first_levels → Adds levels →
    Reading bytes placed 0 (record { state = st.Start; levels = levels })
unfolding answer
at_start bytes placed levels is first adds = record {
  adds = adds;
  low = let none : levels.depth ≡ 0 = adds ∙ ap (λ l. depth l) first in omega (arith, none);
  reads = ap (reading (length bytes) st.Start first_levels) (sym is) ∙ ap (λ l. reading (length bytes) st.Start l placed) (sym first);
}

drop_one : (placed : List Placed) (i : ℕ) (p : Placed) → i < length placed → p ≡ slice_index_or placed i p → drop i placed ≡ p ∷ drop (i + 1) placed
drop_one placed i p less is =
    let more : suc i ≡ i + 1 = omega arith in
    drop-cons placed i p less ∙ ap (λ x. x ∷ drop (suc i) placed) (sym is) ∙ ap (λ n. p ∷ drop n placed) more

pub at_next : {bytes : List ℕ} {placed : List Placed} {i : ℕ} {before next : Progress} (p : Placed) → Reading bytes placed i before → i < length placed →
    p ≡ slice_index_or placed i p → Follows before p next → Reading bytes placed (i + 1) next
at_next {bytes} {placed} {i} {before} {next} p h less is follows = record {
  adds = follows.adds;
  low = follows.low;
  reads = h.reads ∙ ap (reading (length bytes) before.state (all before.levels)) (drop_one placed i p less is) ∙ follows.reads (length bytes) (drop (i + 1) placed);
}

says : (bytes : List ℕ) (a : Result Command ReadFault) → Reads bytes a → Says bytes a
says bytes (Ok v) h = h
says bytes (Err (f.Syntax place)) h = h
says bytes (Err (f.TooDeep place)) h = h
says bytes (Err (f.NumberTooLarge place)) h = h
says bytes (Err f.OutOfMemory) h = tt

answered_by : (bytes : List ℕ) (a : Result Command ReadFault) → Reads bytes (answer bytes) → answer bytes ≡ a → Says bytes a
answered_by bytes a h is = says bytes a (subst (λ b. Reads bytes b) is h)

pub refused : {bytes : List ℕ} {placed : List Placed} {i : ℕ} {before : Progress} (p : Placed) (fault : ReadFault) → Reading bytes placed i before → i < length placed →
    p ≡ slice_index_or placed i p → Refuses before p fault → Reads bytes (answer bytes) → Says bytes (Err fault)
refused {bytes} {placed} {i} {before} p fault h less is refuses right = by fault refuses
  where
    from : (other : ReadFault) → ((len : ℕ) (rest : List Placed) → reading len before.state (all before.levels) (p ∷ rest) ≡ Err other) → Says bytes (Err other)
    from other same = answered_by bytes (Err other) right
        (h.reads ∙ ap (reading (length bytes) before.state (all before.levels)) (drop_one placed i p less is) ∙ same (length bytes) (drop (i + 1) placed))

    by : (other : ReadFault) → Refuses before p other → Says bytes (Err other)
    by (f.Syntax place) same = from (f.Syntax place) same
    by (f.TooDeep place) same = from (f.TooDeep place) same
    by (f.NumberTooLarge place) same = from (f.NumberTooLarge place) same
    by f.OutOfMemory same = tt

pub over : {bytes : List ℕ} {placed : List Placed} {i : ℕ} {progress : Progress} (o : Option Command) → Reading bytes placed i progress → length placed ≤ i →
    o ≡ command_finished progress.state → Reads bytes (answer bytes) → Says bytes (ended (length bytes) o)
over {bytes} {placed} {i} {progress} o h all_read is right =
    answered_by bytes (ended (length bytes) o) right
    (h.reads ∙ ap (reading (length bytes) progress.state (all progress.levels)) (drop_all i placed all_read) ∙ ap (ended (length bytes)) (sym is))
