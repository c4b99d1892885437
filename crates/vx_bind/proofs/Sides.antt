-- Lists side by side, where one is longer.
use Rattle.std.proofs.Common.{◌≡◌, ◌&&◌, Bool, true, false, List, [], ◌∷◌, length, suc, refl, ap}
use Rattle.vx_syntax.specs.Expressions.{Bytes}
use Rattle.vx_node.specs.declared.node.Info.{Info}
use Rattle.vx_compilation.specs.Binding.{Order, is_over, are_over, at_each}

and_false : (a b : Bool) → b ≡ false → (a && b) ≡ false
and_false true b e = e
and_false false b e = refl

pub over_unlike : (order : Order) (xs ys : List Bytes) → (length xs ≡ length ys → ⊥) → are_over order xs ys ≡ false
over_unlike order [] [] other = absurd (other refl)
over_unlike order [] (y ∷ ys) other = refl
over_unlike order (x ∷ xs) [] other = refl
over_unlike order (x ∷ xs) (y ∷ ys) other =
    and_false (is_over order x y) (are_over order xs ys) (over_unlike order xs ys (λ e. other (ap suc e)))

pub each_unlike : (test : Info → Bytes → Bool) (infos : List Info) (xs : List Bytes) → (length infos ≡ length xs → ⊥) → at_each test infos xs ≡ false
each_unlike test [] [] other = absurd (other refl)
each_unlike test [] (x ∷ xs) other = refl
each_unlike test (info ∷ infos) [] other = refl
each_unlike test (info ∷ infos) (x ∷ xs) other =
    and_false (test info x) (at_each test infos xs) (each_unlike test infos xs (λ e. other (ap suc e)))
