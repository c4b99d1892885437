-- Masks as numbers.
use Rattle.std.proofs.Common.{◌≡◌, ℕ, zero, suc, ◌+◌, ◌-◌, ◌*◌, ◌%◌, ◌^◌, ◌<◌, ◌≤◌, min, Bool, true, false, not, cond, eqb, ◌&&◌, List, [], ◌∷◌}
use Rattle.std.proofs.Common.{◌++◌, length, take, get_or, Option, Some, None, refl, sym, ap, ◌∙◌, inl, inr, arith}
use Rattle.std.specs.Prelude.{bit_and, filter}
use Rattle.std.specs.Int.{bit_at, w128, bit_not}
use Rattle.std.specs.List.{find, list_all}
use Rattle.std.proofs.lemmas.Bool.{cases_Bool, cases_lt, cases_eq, eqb-true, eqb-false, eq-eqb, ne_eqb}
use Rattle.std.proofs.lemmas.List.{take_more}
use Rattle.std.proofs.lemmas.Nat.Bits.{bit_at_and, bit_at-lt, bit_at-zero, bit_at_ones, bit_at_ones_above, same_from_bits, bit_at_clear_same}
use Rattle.std.proofs.lemmas.Nat.Bits.{bit_at_clear_other}
use Rattle.vx_tables.specs.declared.picked.Picked.TheVariants as chosen
use Rattle.vx_tables.specs.Masks.{has, beaten, is_below, is_left, rows_from, covers, choice, picked}
use Rattle.vx_tables.specs.Scans.{is_best, scanned}

two : (x y : ℕ) → x < 2 → y < 2 → eqb (min x y) 1 ≡ (eqb x 1 && eqb y 1)
two zero zero a b = refl
two zero (suc zero) a b = refl
two (suc zero) zero a b = refl
two (suc zero) (suc zero) a b = refl
two (suc (suc x)) y a b = absurd (omega arith)
two zero (suc (suc y)) a b = absurd (omega arith)
two (suc zero) (suc (suc y)) a b = absurd (omega arith)

pub has_and : (a b i : ℕ) → has (bit_and a b) i ≡ (has a i && has b i)
has_and a b i = ap (λ n. eqb n 1) (bit_at_and a b i) ∙ two (bit_at a i) (bit_at b i) (bit_at-lt a i) (bit_at-lt b i)

pub has_first : (k i : ℕ) → i < k → has (2 ^ k - 1) i ≡ true
has_first k i lt = ap (λ n. eqb n 1) (bit_at_ones k i lt)

pub has_not_first : (k i : ℕ) → k ≤ i → has (2 ^ k - 1) i ≡ false
has_not_first k i le = ap (λ n. eqb n 1) (bit_at_ones_above k i le)

and_assoc : (a b c : Bool) → ((a && b) && c) ≡ (a && (b && c))
and_assoc true b c = refl
and_assoc false b c = refl

and_true_end : (a : Bool) → (a && true) ≡ a
and_true_end true = refl
and_true_end false = refl

all_snoc : (f : ℕ → Bool) (xs : List ℕ) (x : ℕ) → list_all f (xs ++ x ∷ []) ≡ (list_all f xs && f x)
all_snoc f [] x = and_true_end (f x)
all_snoc f (y ∷ xs) x = rw (all_snoc f xs x) (sym (and_assoc (f y) (list_all f xs) (f x)))

-- one mask more
pub one_more : (left : ℕ) (masks : List ℕ) (k i : ℕ) → k < length masks → has left i ≡ list_all (λ mask. has mask i) (take k masks)
    → has (bit_and left (get_or masks k 0)) i ≡ list_all (λ mask. has mask i) (take (k + 1) masks)
one_more left masks k i lt so_far =
    has_and left (get_or masks k 0) i ∙ ap (λ b. b && has (get_or masks k 0) i) so_far
    ∙ sym (all_snoc (λ mask. has mask i) (take k masks) (get_or masks k 0))
    ∙ ap (λ (t : List ℕ). list_all (λ mask. has mask i) t) (sym (take_more masks k 0 lt))

beaten_is : (beats : List ℕ) (row : ℕ) → beaten beats row ≡ get_or beats row 0
beaten_is [] zero = refl
beaten_is [] (suc row) = refl
beaten_is (b ∷ beats) zero = refl
beaten_is (b ∷ beats) (suc row) = beaten_is beats row

-- ---- the scan

best_at : (beats : List ℕ) (left i : ℕ) (b : Bool) → b ≡ (has left i && eqb (bit_and left (get_or beats i 0)) left) → is_best beats left i ≡ b
best_at beats left i b e = rw (beaten_is beats i) (sym e)

pub scan_here : (beats : List ℕ) (left i : ℕ) → i < length beats → true ≡ (has left i && eqb (bit_and left (get_or beats i 0)) left)
    → find (is_best beats left) (rows_from i (length beats - i)) ≡ find (is_best beats left) (rows_from 0 (length beats)) → chosen.Row i ≡ scanned beats left
scan_here beats left i lt e so_far =
    let k : length beats - i ≡ suc (length beats - (i + 1)) = omega arith in
    let here : find (is_best beats left) (rows_from i (length beats - i)) ≡ Some i = rw (k, best_at beats left i true e) refl in
    ap (λ (o : Option ℕ). elim o [ Some row ↦ chosen.Row row | None ↦ chosen.Many ]) (sym here ∙ so_far)

pub scan_on : (beats : List ℕ) (left i : ℕ) → i < length beats → false ≡ (has left i && eqb (bit_and left (get_or beats i 0)) left)
    → find (is_best beats left) (rows_from i (length beats - i)) ≡ find (is_best beats left) (rows_from 0 (length beats))
    → find (is_best beats left) (rows_from (i + 1) (length beats - (i + 1))) ≡ find (is_best beats left) (rows_from 0 (length beats))
scan_on beats left i lt e so_far =
    let k : length beats - i ≡ suc (length beats - (i + 1)) = omega arith in
    let next : i + 1 ≡ suc i = omega arith in
    let here : find (is_best beats left) (rows_from i (length beats - i)) ≡ find (is_best beats left) (rows_from (i + 1) (length beats - (i + 1))) =
    rw (k, next, best_at beats left i false e) refl in
    sym here ∙ so_far

-- ---- the rows that count

pub from_row : (beats : List ℕ) (first from i : ℕ) → i < 128 → from < 128 → has first i ≡ true →
    has (bit_and (bit_and first (get_or beats from 0)) (bit_not w128 (1 * 2 ^ from % 2 ^ 128))) i ≡ is_below beats (Some from) i
from_row beats first from i lt within here =
    let x : ℕ = bit_and first (get_or beats from 0) in
    let inside : has x i ≡ has (beaten beats from) i = has_and first (get_or beats from 0) i ∙ ap (λ b. b && has (get_or beats from 0) i) here ∙
    ap (λ n. has n i) (sym (beaten_is beats from)) in
    elim (cases_eq i from) [
      | inl same ↦
          let off : has (bit_and x (bit_not w128 (1 * 2 ^ from % 2 ^ 128))) i ≡ false =
          ap (λ j. has (bit_and x (bit_not w128 (1 * 2 ^ from % 2 ^ 128))) j) same ∙ ap (λ n. eqb n 1) (bit_at_clear_same w128 x from within) in
          let eq : eqb i from ≡ true = eq-eqb _ _ same in
          off ∙ sym (ap (λ b. has (beaten beats from) i && not b) eq ∙ and_false (has (beaten beats from) i))
      | inr other ↦
          let on : has (bit_and x (bit_not w128 (1 * 2 ^ from % 2 ^ 128))) i ≡ has x i = ap (λ n. eqb n 1) (bit_at_clear_other w128 x from within i lt other) in
          let ne : eqb i from ≡ false = ne_eqb _ _ other in
          on ∙ inside ∙ sym (ap (λ b. has (beaten beats from) i && not b) ne ∙ and_true_end (has (beaten beats from) i))
    ]
  where
    and_false : (a : Bool) → (a && false) ≡ false
    and_false true = refl
    and_false false = refl

pub past_rows : (a b c i : ℕ) → has a i ≡ false → has (bit_and (bit_and a b) c) i ≡ false
past_rows a b c i h = has_and (bit_and a b) c i ∙ ap (λ x. x && has c i) (has_and a b i ∙ ap (λ x. x && has b i) h)

-- ---- the rows left as a list

same_rows : (f g : ℕ → Bool) (first count : ℕ) → ((i : ℕ) → i < first + count → f i ≡ g i) → filter f (rows_from first count) ≡ filter g (rows_from first count)
same_rows f g first zero same = refl
same_rows f g first (suc count) same = rw (same first (omega arith), same_rows f g (suc first) count (λ i lt. same i (omega arith))) refl

no_rows : (f : ℕ → Bool) → ((i : ℕ) → f i ≡ false) → (first count : ℕ) → filter f (rows_from first count) ≡ []
no_rows f none first zero = refl
no_rows f none first (suc count) = rw (none first) (no_rows f none (suc first) count)

none_left : (f : ℕ → Bool) (first count : ℕ) → filter f (rows_from first count) ≡ [] → (i : ℕ) → first ≤ i → i < first + count → f i ≡ false
none_left f first zero e i le lt = absurd (omega arith)
none_left f first (suc count) e i le lt = elim (cases_Bool (f first)) [
  | inl on ↦ absurd (let h = rw on at e in cc)
  | inr off ↦
      let rest : filter f (rows_from (suc first) count) ≡ [] = rw off at e in
      elim (cases_eq i first) [ inl same ↦ ap f same ∙ off | inr other ↦ none_left f (suc first) count rest i (omega arith) (omega arith) ]
]

find_filter : (p q : ℕ → Bool) (xs : List ℕ) → find p (filter q xs) ≡ find (λ x. q x && p x) xs
find_filter p q [] = refl
find_filter p q (x ∷ xs) = elim (cases_Bool (q x)) [
  | inl on ↦ elim (cases_Bool (p x)) [ inl yes_ ↦ rw (on, yes_) refl | inr no_ ↦ rw (on, no_) (find_filter p q xs) ]
  | inr off ↦ rw off (find_filter p q xs)
]

find_same : (p q : ℕ → Bool) (xs : List ℕ) → ((x : ℕ) → p x ≡ q x) → find p xs ≡ find q xs
find_same p q [] same = refl
find_same p q (x ∷ xs) same = rw (same x, find_same p q xs same) refl

-- ---- covering as an equation of masks

same_bit : (x y : ℕ) → x < 2 → y < 2 → eqb x 1 ≡ eqb y 1 → x ≡ y
same_bit zero zero a b e = refl
same_bit zero (suc zero) a b e = absurd cc
same_bit (suc zero) zero a b e = absurd cc
same_bit (suc zero) (suc zero) a b e = refl
same_bit (suc (suc x)) y a b e = absurd (omega arith)
same_bit zero (suc (suc y)) a b e = absurd (omega arith)
same_bit (suc zero) (suc (suc y)) a b e = absurd (omega arith)

pub same_masks : (a b : ℕ) → ((i : ℕ) → has a i ≡ has b i) → a ≡ b
same_masks a b same = same_from_bits a b (λ i. same_bit (bit_at a i) (bit_at b i) (bit_at-lt a i) (bit_at-lt b i) (same i))

all_of_rows : (f g : ℕ → Bool) (first count : ℕ) → list_all f (filter g (rows_from first count)) ≡ true → (i : ℕ) → first ≤ i → i < first + count →
    g i ≡ true → f i ≡ true
all_of_rows f g first zero e i le lt on = absurd (omega arith)
all_of_rows f g first (suc count) e i le lt on = elim (cases_eq i first) [
  | inl same ↦ ap f same ∙ (let here : g first ≡ true = ap g (sym same) ∙ on in let h = rw here at e in
      first_true (f first) (list_all f (filter g (rows_from (suc first) count))) h)
  | inr other ↦ all_of_rows f g (suc first) count (rest (g first) e) i (omega arith) (omega arith) on
]
  where
    first_true : (a b : Bool) → (a && b) ≡ true → a ≡ true
    first_true true b e = refl
    first_true false b e = absurd cc

    second_true : (a b : Bool) → (a && b) ≡ true → b ≡ true
    second_true true b e = e
    second_true false b e = absurd cc

    rest : (b : Bool) → list_all f (cond b (first ∷ filter g (rows_from (suc first) count)) (filter g (rows_from (suc first) count))) ≡ true →
        list_all f (filter g (rows_from (suc first) count)) ≡ true
    rest true e = second_true (f first) (list_all f (filter g (rows_from (suc first) count))) e
    rest false e = e

rows_of_all : (f g : ℕ → Bool) → ((i : ℕ) → g i ≡ true → f i ≡ true) → (first count : ℕ) → list_all f (filter g (rows_from first count)) ≡ true
rows_of_all f g all first zero = refl
rows_of_all f g all first (suc count) = elim (cases_Bool (g first)) [
  | inl on ↦ rw (on, all first on) (rows_of_all f g all (suc first) count)
  | inr off ↦ rw off (rows_of_all f g all (suc first) count)
]

covering : (n left b : ℕ) → ((i : ℕ) → n ≤ i → has left i ≡ false) → list_all (has b) (filter (has left) (rows_from 0 n)) ≡ eqb (bit_and left b) left
covering n left b high = elim (cases_Bool (eqb (bit_and left b) left)) [
  | inl same ↦
      let eq : bit_and left b ≡ left = eqb-true _ _ same in
      rows_of_all (has b) (has left) (λ i on. let one = has_and left b i in let two_ : has (bit_and left b) i ≡ has left i = ap (λ n. has n i) eq in
      second (has left i) (has b i) on (sym one ∙ two_)) 0 n ∙ sym same
  | inr other ↦ elim (cases_Bool (list_all (has b) (filter (has left) (rows_from 0 n)))) [
    | inl all_ ↦ absurd (eqb-false _ _ other (same_masks (bit_and left b) left
        (λ i. has_and left b i ∙ both (has left i) (has b i) (λ on. elim
        (cases_lt i n) [
          | inl lt ↦ all_of_rows (has b) (has left) 0 n all_ i (omega arith) (omega arith) on
          | inr le ↦ absurd
              (let off = high i le in cc)
        ]))))
    | inr some ↦ some ∙ sym other
  ]
]
  where
    second : (a c : Bool) → a ≡ true → (a && c) ≡ a → c ≡ true
    second a c on e = sym (ap (λ x. x && c) on) ∙ e ∙ on

    both : (a c : Bool) → (a ≡ true → c ≡ true) → (a && c) ≡ a
    both true c h = h refl
    both false c h = refl

choice_some : (beats rows : List ℕ) → (rows ≡ [] → ⊥) → choice beats rows ≡ elim
    (find (covers beats rows) rows) [ Some best ↦ chosen.Row best | None ↦ chosen.Many ]
choice_some beats [] some = absurd (some refl)
choice_some beats (row ∷ rows) some = refl

-- ---- picking

pub nothing_left : (beats masks : List ℕ) (below : Option ℕ) → ((i : ℕ) → i < length beats → has 0 i ≡ is_left beats masks below i) →
    chosen.None ≡ picked beats masks below
nothing_left beats masks below bits =
    ap (choice beats) (sym (same_rows (is_left beats masks below) (has 0) 0 (length beats) (λ i lt. sym (bits i (omega arith))) ∙
    no_rows (has 0) (λ i. ap (λ n. eqb n 1) (bit_at-zero i)) 0 (length beats)))

pub something_left : (beats masks : List ℕ) (below : Option ℕ) (left : ℕ) → ((i : ℕ) → i < length beats → has left i ≡ is_left beats masks below i) →
    ((i : ℕ) → length beats ≤ i → has left i ≡ false)
    → (left ≡ 0 → ⊥) → scanned beats left ≡ picked beats masks below
something_left beats masks below left bits high some =
    let rows : List ℕ = filter (has left) (rows_from 0 (length beats)) in
    let same : filter (is_left beats masks below) (rows_from 0 (length beats)) ≡ rows =
    same_rows (is_left beats masks below) (has left) 0 (length beats) (λ i lt. sym (bits i (omega arith))) in
    let any : rows ≡ [] → ⊥ = λ e. some (same_masks left 0 (λ i. off i e ∙ sym (ap (λ n. eqb n 1) (bit_at-zero i)))) in
    let best : find (covers beats rows) rows ≡ find (is_best beats left) (rows_from 0 (length beats)) =
    find_filter (covers beats rows) (has left) (rows_from 0 (length beats)) ∙
    find_same (λ x. has left x && covers beats rows x) (is_best beats left) (rows_from 0 (length beats))
    (λ x. ap (λ b. has left x && b) (covering (length beats) left (beaten beats x) high)) in
    sym (ap (choice beats) same ∙ choice_some beats rows any ∙ ap (λ (o : Option ℕ). elim o [ Some row ↦ chosen.Row row | None ↦ chosen.Many ]) best)
  where
    off : (i : ℕ) → filter (has left) (rows_from 0 (length beats)) ≡ [] → has left i ≡ false
    off i e = elim (cases_lt i (length beats)) [ inl lt ↦ none_left (has left) 0 (length beats) e i (omega arith) (omega arith) | inr le ↦ high i le ]
