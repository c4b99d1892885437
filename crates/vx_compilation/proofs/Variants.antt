-- Where nothing is known exactly, general code is called, whatever the clones: they need not be asked for.
use Rattle.std.proofs.Common.{◌≡◌, ℕ, zero, suc, false, List, [], ◌∷◌, Option, Some, None, slice_get, refl}
use Rattle.std.specs.List.{list_any}
use Rattle.std.proofs.lemmas.Bool.{or_parts}
use Rattle.vx_syntax.specs.Expressions.{Bytes}
use Rattle.vx_node.specs.declared.node.Info.{Info}
use Rattle.vx_node.specs.declared.node.Info.TheVariants as i
use Rattle.vx_node.specs.declared.node.Variant.TheVariants as c
use Rattle.vx_compilation.specs.Resolved.{variant_at, variant_for}
use Rattle.vx_compilation.specs.TreeAsking.{is_exact}

at_general : (infos : List Info) → list_any is_exact infos ≡ false → (position j : ℕ) (classes : List Bytes) →
    variant_at position classes (slice_get infos j) ≡ c.General
at_general [] h position j classes = refl
at_general (i.Any ∷ infos) h position zero classes = refl
at_general (i.Cone x ∷ infos) h position zero classes = refl
at_general (i.Exact x ∷ infos) h position zero classes = let never : ⊥ = cc in absurd never
at_general (info ∷ infos) h position (suc j) classes = at_general infos (or_parts (is_exact info) (list_any is_exact infos) h).1 position j classes

pub general_for : (infos : List Info) → list_any is_exact infos ≡ false → (split : Option (ℕ × List Bytes)) → variant_for infos split ≡ c.General
general_for infos h None = refl
general_for infos h (Some split) = at_general infos h split.0 split.0 split.1
