-- Which node stands at a place of the image.
use Rattle.std.proofs.Common.{◌≡◌, ◌∙◌, ◌∷◌, ◌++◌, ◌+◌, ◌-◌, ◌≤◌, ℕ, zero, suc, List, [], Some, map, ap, length, arith, length-append}
use Rattle.std.specs.List.{slice_get}
use Rattle.std.proofs.lemmas.List.{length-map}
use Rattle.vx_lists.proofs.Places.{at_mapped}
use Rattle.vx_names.specs.declared.key.MethodKey.{MethodKey}
use Rattle.vx_node.specs.declared.node.NodeId.{NodeId}
use Rattle.vx_node.specs.declared.node.Variant.{Variant}
use Rattle.vx_link.specs.declared.roster.Roster.{Roster}
use Rattle.vx_link.specs.Link.{shape_of, test_of, table_of, code_of, targets}

behind : {X Y : Type 0} (f : X → Y) (xs : List X) (ys : List Y) (i : ℕ) → length xs ≤ i → slice_get (map f xs ++ ys) i ≡ slice_get ys (i - length xs)
behind f [] ys i within = let same : i ≡ i - 0 = omega arith in ap (slice_get ys) same
behind f (x ∷ xs) ys zero within = absurd (omega arith)
behind f (x ∷ xs) ys (suc i) within =
    let same : i - length xs ≡ suc i - length (x ∷ xs) = omega arith in
    behind f xs ys i (omega arith) ∙ ap (slice_get ys) same

pub code_listed : (r : Roster) (place : ℕ) (code : MethodKey × Variant) → length r.objects + length r.tests + length r.tables ≤ place →
    slice_get r.codes (place - length r.objects - length r.tests - length r.tables) ≡ Some code → slice_get (targets r) place ≡ Some (code_of code)
code_listed r place code past at =
    behind shape_of r.objects _ place (omega arith) ∙ behind test_of r.tests _ (place - length r.objects) (omega arith)
    ∙ behind table_of r.tables (map code_of r.codes) (place - length r.objects - length r.tests) (omega arith)
    ∙ at_mapped code_of r.codes (place - length r.objects - length r.tests - length r.tables) code at

pub listed_length : (r : Roster) → length (targets r) ≡ length r.objects + length r.tests + length r.tables + length r.codes
listed_length r = simp (length-append {A = NodeId}, length-map) (omega arith)
