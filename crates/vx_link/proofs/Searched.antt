-- What a search by halves finds among keys that rise.
use Rattle.std.proofs.Common.{◌≡◌, ◌∙◌, ◌∷◌, ◌+◌, ◌<◌}
use Rattle.std.proofs.Common.{ℕ, zero, suc, List, [], Bool, true, false, Some, None, Result, Ok, Err, inl, inr, ap, refl, sym, subst, length, get_or, arith}
use Rattle.std.specs.List.{slice_get, position_from}
use Rattle.std.specs.List.Sorted.{IsStrictlySortedBy, IsSortedBy, IsSearchInRange, IsBinarySearchResult, IsNonDecreasingBy}
use Rattle.std.specs.Ordering.{is_eq, is_lt, ordering_reverse, ordering_index}
use Rattle.std.specs.Cmp.{IsTotalOrder, then_total, on_total}
use Rattle.std.specs.Cmp.Lexicographic.{nat_list_cmp_total}
use Rattle.std.specs.declared.cmp.Ordering.{Ordering}
use Rattle.std.specs.declared.cmp.Ordering.TheVariants.{Less, Equal}
use Rattle.std.proofs.lemmas.Bool.{cond-true, cond-false, cases_lt}
use Rattle.std.proofs.lemmas.List.Sorted.{searchable_from_sorted}
use Rattle.std.proofs.lemmas.Map.Keys.{Less-from_sorted, sorted_tail}
use Rattle.std.proofs.lemmas.Option.{same_Some, get_or_from_slice_get, slice_get_within}
use Rattle.vx_lists.proofs.Places.{stands}
use Rattle.vx_names.specs.KeyLaws.{method_keys_total}
use Rattle.vx_node.specs.contracts.node.VariantOrd.TheImpl.Laws.{total-law}
use Rattle.vx_link.specs.Roster.{field_key_cmp, code_cmp, IsKeyList, place_in, place_found}

module _ {K : Type 0} {R : K → K → Ordering} (o : IsTotalOrder R) where
  -- what goes before one that is told to be the key goes before the key
  before : (x own key : K) → R x own ≡ Less → R own key ≡ Equal → is_eq (R x key) ≡ false
  before x own key less same = ap is_eq (o.antisymm x key ∙ ap ordering_reverse (sym (o.congr own key x same)) ∙ sym (o.antisymm x own) ∙ less)

  first : (x : K) (rest : List K) → IsStrictlySortedBy R (x ∷ rest) → (i : ℕ) (own : K) → slice_get rest i ≡ Some own → R x own ≡ Less
  first x rest sorted i own at =
      let inside : i < length rest = slice_get_within rest i own at in
      ap (R x) (sym (get_or_from_slice_get rest i own own at)) ∙ Less-from_sorted R (x ∷ rest) 0 (suc i) own sorted (omega arith) (omega arith)

  -- what stands at the place is told to be the key
  record IsHere (keys : List K) (key : K) (i : ℕ) : Type 0 where
    own : K
    at : slice_get keys i ≡ Some own
    same : R own key ≡ Equal

  -- it is the first that is
  found : (keys : List K) → IsStrictlySortedBy R keys → (key : K) (n i : ℕ) → IsHere keys key i → position_from (λ k. is_eq (R k key)) n keys ≡ Some (n + i)
  found [] sorted key n i here = absurd (cc here.at)
  found (x ∷ rest) sorted key n zero here =
      let told : is_eq (R x key) ≡ true = ap is_eq (ap (λ k. R k key) (same_Some x here.own here.at) ∙ here.same) in
      let still : n ≡ n + zero = omega arith in
      cond-true (is_eq (R x key)) (Some n) (position_from (λ k. is_eq (R k key)) (n + 1) rest) told ∙ ap Some still
  found (x ∷ rest) sorted key n (suc i) here =
      let later : n + 1 + i ≡ n + suc i = omega arith in
      let less = before x here.own key (first x rest sorted i here.own here.at) here.same in
      cond-false (is_eq (R x key)) (Some n) (position_from (λ k. is_eq (R k key)) (n + 1) rest) less
      ∙ found rest (sorted_tail R x rest sorted) key (n + 1) i (record { own = here.own; at = here.at; same = here.same }) ∙ ap Some later

  nowhere : (test : K → Bool) (keys : List K) (n : ℕ) → ((i : ℕ) (own : K) → slice_get keys i ≡ Some own → test own ≡ false) →
      position_from test n keys ≡ None
  nowhere test [] n none = refl
  nowhere test (x ∷ rest) n none =
      cond-false (test x) (Some n) (position_from test (n + 1) rest) (none 0 x refl) ∙ nowhere test rest (n + 1) (λ i own at. none (suc i) own at)

  -- comparisons with a key rise along the list, as a search asks
  rise : (keys : List K) → IsStrictlySortedBy R keys → (key : K) → IsNonDecreasingBy (λ y. ordering_index (R y key)) keys
  rise keys sorted key = searchable_from_sorted o (λ y. y) keys key in_order
    where
      in_order : IsSortedBy (λ a b. is_lt (R a b)) keys
      in_order k d low high =
          ap is_lt (o.antisymm (get_or keys (k + 1) d) (get_or keys k d) ∙ ap ordering_reverse (Less-from_sorted R keys k (k + 1) d sorted (omega arith) high))

  pub searched : (keys : List K) → IsKeyList R keys → (key : K) (r : Result ℕ ℕ) → IsSearchInRange r (length keys) →
      IsBinarySearchResult (λ y. R y key) keys r → place_found r ≡ place_in R keys key
  searched keys list key (Ok i) inside same =
      let own = stands keys i inside in
      let here : R own.0 key ≡ Equal = subst (λ k. R k key ≡ Equal) (get_or_from_slice_get keys i own.0 own.0 own.1) (same own.0) in
      let zeroth : i ≡ 0 + i = omega arith in
      ap Some zeroth ∙ sym (found keys list.rises key 0 i (record { own = own.0; at = own.1; same = here }))
  searched keys list key (Err gap) inside parted = sym (nowhere (λ k. is_eq (R k key)) keys 0 other)
    where
      other : (i : ℕ) (own : K) → slice_get keys i ≡ Some own → is_eq (R own key) ≡ false
      other i own at =
          let parts = parted (rise keys list.rises key) in
          let here = get_or_from_slice_get keys i own own at in
          let within = slice_get_within keys i own at in
          elim (cases_lt i gap) [
            | inl lt ↦ ap is_eq (ap (λ k. R k key) (sym here) ∙ parts.0 i own (omega arith) lt)
            | inr le ↦ ap is_eq (ap (λ k. R k key) (sym here) ∙ parts.1 i own le within)
          ]

pub field_keys_total : IsTotalOrder field_key_cmp
field_keys_total = then_total (on_total (λ k. k.name) nat_list_cmp_total) (on_total (λ k. k.specialiser) nat_list_cmp_total)

pub codes_total : IsTotalOrder code_cmp
codes_total = then_total (on_total (λ c. c.0) method_keys_total) (on_total (λ c. c.1) total-law)
