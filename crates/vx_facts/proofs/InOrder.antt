-- Facts that are put in their order, each once.
use Rattle.std.proofs.Common.{◌≡◌, ◌∙◌, Bool, true, List, sym}
use Rattle.std.specs.List.{Contains, dedup}
use Rattle.std.specs.List.Sorted.{IsPermutation}
use Rattle.std.specs.Ordering.{eq_by_cmp}
use Rattle.std.specs.Cmp.{IsTotalOrder, IsEquivalence, on_total, Equal-is}
use Rattle.std.proofs.lemmas.List.Kept.{Contains-dedup, Contains-from_dedup}
use Rattle.std.proofs.lemmas.List.Sorted.{Contains-permutation, IsPermutation-sym}
use Rattle.std.proofs.lemmas.Option.{get_or_from_slice_get, slice_get_within}
use Rattle.vx_lists.specs.Members.{IsIn}
use Rattle.vx_lists.proofs.Places.{at_in, at_is_in}
use Rattle.vx_node.specs.declared.node.Fact.{Fact}
use Rattle.vx_node.specs.declared.node.NodeId.TheVariants as node
use Rattle.vx_node.specs.contracts.node.NodeIdOrd.TheImpl.Laws.{total-law}
use Rattle.vx_node.proofs.Apart.{nodes_apart}
use Rattle.vx_facts.specs.Differences.{fact_cmp}

in_contains : {X : Type 0} (xs : List X) (x : X) → IsIn x xs → Contains xs x
in_contains xs x i = let at = at_in xs x i in (at.0, slice_get_within xs at.0 x at.1, get_or_from_slice_get xs at.0 x x at.1)

contains_in : {X : Type 0} (xs : List X) (x : X) → Contains xs x → IsIn x xs
contains_in xs x c = at_is_in xs c.0 x c.1 (sym c.2)

pub facts_total : IsTotalOrder fact_cmp
facts_total = on_total node.Fact total-law

-- what a sort and the loss of those that stand twice leave
module _ (E : Fact → Fact → Bool) (ties : (x y : Fact) → E x y ≡ eq_by_cmp fact_cmp x y) (equivalence : IsEquivalence E) (facts moved : List Fact)
    (same : IsPermutation facts moved) where
  apart : (x y : Fact) → E x y ≡ true → x ≡ y
  apart x y e =
      let both : node.Fact x ≡ node.Fact y =
      nodes_apart (node.Fact x) (node.Fact y) ((Equal-is (fact_cmp x y)).0 (sym (ties x y) ∙ e)) in
      cc

  pub in_order : (one : Fact) → (IsIn one facts → IsIn one (dedup E moved)) × (IsIn one (dedup E moved) → IsIn one facts)
  in_order one = (
    (λ i. contains_in (dedup E moved) one
        (Contains-dedup equivalence apart moved one (Contains-permutation facts moved one same (in_contains facts one i)))),
    λ i. contains_in facts one
        (Contains-permutation moved facts one (IsPermutation-sym facts moved same)
        (Contains-from_dedup E moved one (in_contains (dedup E moved) one i))),
  )
