-- Locals: what a store leaves, what a closure captures, where arguments stand.
use Rattle.std.proofs.Common.{◌≡◌, inl, inr, ℕ, zero, suc, ◌+◌, ◌-◌, ◌<◌, ◌≤◌, ◌==◌, true, not, List, [], ◌∷◌, ◌++◌, length, Some, slice_get, refl}
use Rattle.std.proofs.Common.{sym, ap, ◌∙◌, arith, length-append}
use Rattle.std.proofs.lemmas.Bool.{eqb-true, cases_Bool}
use Rattle.std.proofs.lemmas.Bool.Decides.{nat_tests}
use Rattle.std.proofs.lemmas.List.Folds.{find_at}
use Rattle.std.proofs.lemmas.Option.{slice_get_within}
use Rattle.vx_lists.specs.Members.{IsIn}
use Rattle.vx_lists.proofs.Finding.{found_is, is_found, left_is, is_left}
use Rattle.vx_model.specs.declared.value.Value.{Value}
use Rattle.vx_compilation.specs.Activations.{Slot, Unset, Plain, Cell, kept, stored, unset, plain, opened, captured, captured_one}
use Rattle.vx_compilation.specs.TreeMeaning as trees
use Rattle.vx_compilation.specs.Resolved.{once, place_in, numbers}

pub at_here : {A : Type 0} (pre : List A) (a : A) (rest : List A) → slice_get (pre ++ a ∷ rest) (length pre) ≡ Some a
at_here [] a rest = refl
at_here (p ∷ pre) a rest = at_here pre a rest

pub at_front : {A : Type 0} (xs ys : List A) (i : ℕ) (a : A) → slice_get xs i ≡ Some a → slice_get (xs ++ ys) i ≡ Some a
at_front [] ys i a e = absurd (let no : ⊥ = cc in no)
at_front (x ∷ xs) ys zero a e = e
at_front (x ∷ xs) ys (suc i) a e = at_front xs ys i a e

length_plain : (vs : List Value) → length (plain vs) ≡ length vs
length_plain [] = refl
length_plain (v ∷ vs) = ap suc (length_plain vs)

length_unset : (n : ℕ) → length (unset n) ≡ n
length_unset zero = refl
length_unset (suc n) = ap suc (length_unset n)

pub length_opened : (n : ℕ) (cs : List Slot) (vs : List Value) → n ≤ length (opened n cs vs)
length_opened n cs vs = omega (
  arith,
  length-append cs (plain vs ++ unset (n - length cs - length vs)),
  length-append (plain vs)
      (unset (n - length cs - length vs)),
  length_plain vs,
  length_unset (n - length cs - length vs),
)

-- what a store leaves
pub record Stores (n : ℕ) (slot : Slot) (ls ls' : List Slot) : Type 0 where
  pub is : stored n slot ls ≡ Some ls'
  pub here : slice_get ls' n ≡ Some slot
  pub others : (i : ℕ) → (i ≡ n → ⊥) → slice_get ls' i ≡ slice_get ls i
  pub long : length ls' ≡ length ls

pub stores : (n : ℕ) (slot : Slot) (ls : List Slot) → n < length ls → (ls' : List Slot) × Stores n slot ls ls'
stores n slot [] h = absurd (omega (arith, h))
stores zero slot (a ∷ ls) h = (slot ∷ ls, record { is = refl; here = refl; others = zero_others; long = refl })
  where
    zero_others : (i : ℕ) → (i ≡ zero → ⊥) → slice_get (slot ∷ ls) i ≡ slice_get (a ∷ ls) i
    zero_others zero ne = absurd (ne refl)
    zero_others (suc i) ne = refl
stores (suc n) slot (a ∷ ls) h =
    let r = stores n slot ls (omega (arith, h)) in
    (a ∷ r.0, record { is = ap (kept a) r.1.is; here = r.1.here; others = before r.0 r.1.others; long = ap suc r.1.long })
  where
    before : (ls' : List Slot) → ((i : ℕ) → (i ≡ n → ⊥) → slice_get ls' i ≡ slice_get ls i) → (i : ℕ) → (i ≡ suc n → ⊥) →
        slice_get (a ∷ ls') i ≡ slice_get (a ∷ ls) i
    before ls' f zero ne = refl
    before ls' f (suc i) ne = f i (λ e. ne (ap suc e))

-- ---- locals that are kept

pub record Agree (n : ℕ) (ls ls' : List Slot) : Type 0 where
  pub same : (i : ℕ) → i < n → slice_get ls' i ≡ slice_get ls i
  pub long : length ls' ≡ length ls

pub agree_self : (n : ℕ) (ls : List Slot) → Agree n ls ls
agree_self n ls = record { same = λ i lt. refl; long = refl }

pub agree_on : (n m : ℕ) (a b c : List Slot) → n ≤ m → Agree n a b → Agree m b c → Agree n a c
agree_on n m a b c le p q = record { same = λ i lt. q.same i (omega (arith, le, lt)) ∙ p.same i lt; long = q.long ∙ p.long }

pub agree_store : (n m : ℕ) (slot : Slot) (a b c : List Slot) → n ≤ m → Agree n a b → Stores m slot b c → Agree n a c
agree_store n m slot a b c le p k = record { same = λ i lt. k.others i (λ e. omega (arith, e, le, lt)) ∙ p.same i lt; long = k.long ∙ p.long }

-- ---- capturing

abbrev pub IsSet : Slot → Type 0
IsSet Unset = ⊥
IsSet (Plain value) = Unit {0}
IsSet (Cell i) = Unit {0}

-- each local has something
abbrev pub AreSet : List ℕ → List Slot → Type 0
AreSet [] ls = Unit {0}
AreSet (x ∷ xs) ls = ((slot : Slot) × (slice_get ls x ≡ Some slot) × IsSet slot) × AreSet xs ls

pub record Captures (xs : List ℕ) (ls cs : List Slot) : Type 0 where
  pub is : captured xs ls ≡ Some cs
  pub long : length cs ≡ length xs
  pub at : (i x : ℕ) → slice_get xs i ≡ Some x → slice_get cs i ≡ slice_get ls x

captured_set : (slot : Slot) → IsSet slot → (cs : List Slot) → captured_one (Some slot) (Some cs) ≡ Some (slot ∷ cs)
captured_set Unset h cs = absurd h
captured_set (Plain value) h cs = refl
captured_set (Cell i) h cs = refl

pub captures_are : (xs : List ℕ) (ls : List Slot) → AreSet xs ls → (cs : List Slot) × Captures xs ls cs
captures_are [] ls h = ([], record { is = refl; long = refl; at = λ i x e. absurd (let no : ⊥ = cc in no) })
captures_are (x ∷ xs) ls h =
    let r = captures_are xs ls h.1 in (
      h.0.0 ∷ r.0,
      record {
        is = ap (λ o. captured_one (slice_get ls x) o) r.1.is ∙ ap (λ o. captured_one o (Some r.0)) h.0.1 ∙ captured_set h.0.0 h.0.2 r.0;
        long = ap suc r.1.long;
        at = places r.0 r.1.at;
      },
    )
  where
    places : (cs : List Slot) → ((i y : ℕ) → slice_get xs i ≡ Some y → slice_get cs i ≡ slice_get ls y) → (i y : ℕ) → slice_get (x ∷ xs) i ≡ Some y →
        slice_get (h.0.0 ∷ cs) i ≡ slice_get ls y
    places cs f zero y e = let same : x ≡ y = cc in sym h.0.1 ∙ ap (slice_get ls) same
    places cs f (suc i) y e = f i y e

-- ---- each number once

same_number : (a b : ℕ) → a ≡ b → (a == b) ≡ true
same_number a b e = grind (arith, nat_tests)

in_once : (xs : List ℕ) (x : ℕ) → IsIn x xs → IsIn x (once xs)
in_once [] x i = i
in_once (y ∷ ys) x (inl e) = inl e
in_once (y ∷ ys) x (inr i) =
    elim (cases_Bool (x == y)) [
      | inl e ↦ inl (sym (eqb-true x y e))
      | inr e ↦ inr (is_left (λ z. not (z == y)) (once ys) x (in_once ys x i) (ap not e))
    ]

once_in : (xs : List ℕ) (x : ℕ) → IsIn x (once xs) → IsIn x xs
once_in [] x i = i
once_in (y ∷ ys) x (inl e) = inl e
once_in (y ∷ ys) x (inr i) = inr (once_in ys x (left_is (λ z. not (z == y)) (once ys) x i).0)

pub once_has : (xs : List ℕ) (x : ℕ) → IsIn x xs → IsIn x (once xs)
once_has = in_once

pub once_only : (xs : List ℕ) (x : ℕ) → IsIn x (once xs) → IsIn x xs
once_only = once_in

-- a number stands at its place
pub placed_at : (xs : List ℕ) (x : ℕ) → IsIn x xs → slice_get xs (place_in xs x) ≡ Some x
placed_at xs x i =
    let first = is_found (λ y. y == x) xs x i (same_number x x refl) in
    let is = found_is (λ y. y == x) xs first.0 first.1 in
    sym (find_at (λ y. y == x) xs) ∙ first.1 ∙ ap Some (eqb-true first.0 x is.1)

pub placed_within : (xs : List ℕ) (x : ℕ) → IsIn x xs → place_in xs x < length xs
placed_within xs x i = slice_get_within xs (place_in xs x) x (placed_at xs x i)

-- ---- arguments

-- arguments behind what was captured
pub argument_at : (cs : List Slot) (vs : List Value) (more : List Slot) (i : ℕ) (v : Value) → slice_get vs i ≡ Some v →
    slice_get (cs ++ (plain vs ++ more)) (length cs + i) ≡ Some (Plain v)
argument_at [] vs more i v e = let none : List Slot = [] in let n : length none + i ≡ i = omega arith in ap (slice_get (plain vs ++ more)) n ∙ plain_at vs i e
  where
    plain_at : (us : List Value) (j : ℕ) → slice_get us j ≡ Some v → slice_get (plain us ++ more) j ≡ Some (Plain v)
    plain_at [] j e = absurd (let no : ⊥ = cc in no)
    plain_at (u ∷ us) zero e = let same : u ≡ v = cc in ap (λ z. Some (Plain z)) same
    plain_at (u ∷ us) (suc j) e = plain_at us j e
argument_at (c ∷ cs) vs more i v e = let n : length (c ∷ cs) + i ≡ suc (length cs + i) = omega arith in ap (slice_get (c ∷ (cs ++ (plain vs ++ more)))) n ∙
    argument_at cs vs more i v e

-- the formals of an inlined body
pub record Puts (n : ℕ) (vs : List Value) (ls ls' : List Slot) : Type 0 where
  pub is : trees.placed (numbers n (length vs)) vs ls ≡ Some ls'
  pub at : (i : ℕ) (v : Value) → slice_get vs i ≡ Some v → slice_get ls' (n + i) ≡ Some (Plain v)
  pub agree : Agree n ls ls'

pub puts : (n : ℕ) (vs : List Value) (ls : List Slot) → n + length vs ≤ length ls → (ls' : List Slot) × Puts n vs ls ls'
puts n [] ls le = (ls, record { is = refl; at = λ i v e. absurd (let no : ⊥ = cc in no); agree = agree_self n ls })
puts n (v ∷ vs) ls le =
    let r = puts (suc n) vs ls (omega (arith, le)) in
    let k = stores n (Plain v) r.0 (omega (arith, le, r.1.agree.long)) in (
      k.0,
      record {
        is = ap (λ o. trees.placed_one n v o) r.1.is ∙ k.1.is;
        at = places r.0 r.1.at k.0 k.1;
        agree = record { same = λ i lt. k.1.others i (λ s. omega (arith, s, lt)) ∙ r.1.agree.same i (omega (arith, lt)); long = k.1.long ∙ r.1.agree.long };
      },
    )
  where
    places : (ls1 : List Slot) → ((i : ℕ) (u : Value) → slice_get vs i ≡ Some u → slice_get ls1 (suc n + i) ≡ Some (Plain u)) → (ls2 : List Slot) →
        Stores n (Plain v) ls1 ls2 →
        (i : ℕ) (u : Value) → slice_get (v ∷ vs) i ≡ Some u → slice_get ls2 (n + i) ≡ Some (Plain u)
    places ls1 f ls2 k zero u e =
        let same : v ≡ u = cc in
        let z : n + zero ≡ n = omega arith in
        ap (slice_get ls2) z ∙ k.here ∙ ap (λ a. Some (Plain a)) same
    places ls1 f ls2 k (suc i) u e =
        let z : n + suc i ≡ suc n + i = omega arith in
        ap (slice_get ls2) z ∙ k.others (suc n + i) (λ s. omega (arith, s)) ∙ f i u e
