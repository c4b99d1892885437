-- Lists side by side, where one is longer or both end.
use Rattle.std.proofs.Common.{◌≡◌, ◌≤◌, ℕ, zero, suc, ◌&&◌, Bool, true, false, List, [], ◌∷◌, length, drop, min, refl, ap, arith}
use Rattle.vx_syntax.specs.declared.decl.Decl.{Decl}
use Rattle.vx_syntax.specs.Expressions.{Bytes}
use Rattle.vx_program.specs.Program.{leads}
use Rattle.vx_model.specs.declared.value.Value.{Value}
use Rattle.vx_model.specs.declared.value.Heap.{Heap}
use Rattle.vx_model.specs.Holds.{holds}
use Rattle.vx_model.specs.Lookup.{are_above, are_held, differ}

and_false : (a b : Bool) → b ≡ false → (a && b) ≡ false
and_false true b e = e
and_false false b e = refl

-- the lists have different lengths
abbrev pub Apart : {X Y : Type 0} → List X → List Y → Type 0
Apart xs ys = length xs ≡ length ys → ⊥

-- and do not match then
pub above_unlike : (program : List Decl) (xs ys : List Bytes) → Apart xs ys → are_above program xs ys ≡ false
above_unlike program [] [] other = absurd (other refl)
above_unlike program [] (y ∷ ys) other = refl
above_unlike program (x ∷ xs) [] other = refl
above_unlike program (x ∷ xs) (y ∷ ys) other = and_false (leads program x y) (are_above program xs ys) (above_unlike program xs ys (λ e. other (ap suc e)))

pub held_unlike : (program : List Decl) (heap : Heap) (values : List Value) (xs : List Bytes) → Apart values xs → are_held program heap values xs ≡ false
held_unlike program heap [] [] other = absurd (other refl)
held_unlike program heap [] (x ∷ xs) other = refl
held_unlike program heap (value ∷ values) [] other = refl
held_unlike program heap (value ∷ values) (x ∷ xs) other =
    and_false (holds program heap value x) (are_held program heap values xs) (held_unlike program heap values xs (λ e. other (ap suc e)))

-- where one list has ended nothing differs any more
pub nothing_left : (xs ys : List Bytes) (i : ℕ) → min (length xs) (length ys) ≤ i → differ (drop i xs) (drop i ys) ≡ false
nothing_left [] ys zero l = refl
nothing_left [] ys (suc i) l = refl
nothing_left (x ∷ xs) [] zero l = refl
nothing_left (x ∷ xs) (y ∷ ys) zero l = absurd (omega arith)
nothing_left (x ∷ xs) [] (suc i) l = ended (drop i xs)
  where
    ended : (zs : List Bytes) → differ zs [] ≡ false
    ended [] = refl
    ended (z ∷ zs) = refl
nothing_left (x ∷ xs) (y ∷ ys) (suc i) l = nothing_left xs ys i (omega arith)
