-- There is a word of 32 letters that fewer than 2 ^ 64 names leave free.
use Rattle.std.proofs.Common.{◌≡◌, ◌<◌, ◌≤◌, ◌+◌, ◌*◌, ◌^◌, ◌==◌, ◌&&◌, ◌||◌, ℕ, zero, suc, Bool, true, false, List, [], ◌∷◌, ◌⊎◌, inl, inr, length, Option, Some, None, if◌then◌else◌, refl, ap, ◌∙◌, nat_lt, arith, ltb-true, ltb-false}
use Rattle.std.proofs.lemmas.Bool.Decides.{nat_tests}
use Rattle.std.proofs.lemmas.Slice.Eq.{bytes_eq-Decides}
use Rattle.std.specs.Str.{bytes_eq}
use Rattle.std.specs.List.{AllByRecursion}
use Rattle.vx_names.specs.Bytes.{is_letter, is_word_byte}
use Rattle.vx_names.specs.Name.{IsIdentifier}
use Rattle.vx_syntax.specs.declared.token.Keyword.{Keyword}
use Rattle.vx_syntax.specs.Words.{keyword, IsWord}
use Rattle.vx_syntax.specs.Expressions.{Bytes, Scope, is_bound, is_among, max_field_bytes}

abbrev tail_by : (b : Bool) → Bytes → List Bytes → List Bytes
tail_by true x xs = x ∷ xs
tail_by false x xs = xs

-- what follows the letter c in the names that begin with it
abbrev tails : ℕ → List Bytes → List Bytes
tails c [] = []
tails c ([] ∷ ys) = tails c ys
tails c ((d ∷ x) ∷ ys) = tail_by (d == c) x (tails c ys)

among_by : (c : ℕ) (x y : Bytes) (ys : List Bytes) (b : Bool) → is_among ys (c ∷ x) ≡ is_among (tails c ys) x →
    ((b && bytes_eq y x) || is_among ys (c ∷ x)) ≡ is_among (tail_by b y (tails c ys)) x
among_by c x y ys true h = ap (λ r. bytes_eq y x || r) h
among_by c x y ys false h = h

among_tails : (c : ℕ) (x : Bytes) (ys : List Bytes) → is_among ys (c ∷ x) ≡ is_among (tails c ys) x
among_tails c x [] = refl
among_tails c x ([] ∷ ys) = among_tails c x ys
among_tails c x ((d ∷ y) ∷ ys) = among_by c x y ys (d == c) (among_tails c x ys)

-- the names that begin with one of four letters
abbrev four : (ps qs rs ss : List Bytes) → ℕ
four ps qs rs ss = length ps + length qs + length rs + length ss

-- a name begins with one of them at most
one_letter : (d : ℕ) (x : Bytes) (ps qs rs ss : List Bytes) →
    four (tail_by (d == 97) x ps) (tail_by (d == 98) x qs) (tail_by (d == 99) x rs) (tail_by (d == 100) x ss) ≤ suc (four ps qs rs ss)
one_letter d x ps qs rs ss =
    by (d == 97) (d == 98) (d == 99) (d == 100) (λ a b. grind (arith, nat_tests)) (λ a b. grind (arith, nat_tests)) (λ a b. grind (arith, nat_tests))
    (λ a b. grind (arith, nat_tests)) (λ a b. grind (arith, nat_tests)) (λ a b. grind (arith, nat_tests))
  where
    by : (p q r s : Bool) → (p ≡ true → q ≡ true → ⊥) → (p ≡ true → r ≡ true → ⊥) → (p ≡ true → s ≡ true → ⊥) →
        (q ≡ true → r ≡ true → ⊥) → (q ≡ true → s ≡ true → ⊥) → (r ≡ true → s ≡ true → ⊥) →
        four (tail_by p x ps) (tail_by q x qs) (tail_by r x rs) (tail_by s x ss) ≤ suc (four ps qs rs ss)
    by false false false false pq pr ps qr qs rs = omega arith
    by false false false true pq pr ps qr qs rs = omega arith
    by false false true false pq pr ps qr qs rs = omega arith
    by false false true true pq pr ps qr qs rs = absurd (rs refl refl)
    by false true false false pq pr ps qr qs rs = omega arith
    by false true false true pq pr ps qr qs rs = absurd (qs refl refl)
    by false true true s pq pr ps qr qs rs = absurd (qr refl refl)
    by true false false false pq pr ps qr qs rs = omega arith
    by true false false true pq pr ps qr qs rs = absurd (ps refl refl)
    by true false true s pq pr ps qr qs rs = absurd (pr refl refl)
    by true true r s pq pr ps qr qs rs = absurd (pq refl refl)

tails_length : (ys : List Bytes) → four (tails 97 ys) (tails 98 ys) (tails 99 ys) (tails 100 ys) ≤ length ys
tails_length [] = omega arith
tails_length ([] ∷ ys) = let h = tails_length ys in omega arith
tails_length ((d ∷ x) ∷ ys) = let h = tails_length ys in omega (arith, one_letter d x (tails 97 ys) (tails 98 ys) (tails 99 ys) (tails 100 ys))

abbrev room : ℕ → ℕ
room zero = 1
room (suc n) = 4 * room n

one_fits : (a b m n : ℕ) → a + b < m + n → (a < m) ⊎ (b < n)
one_fits a b m n h = by (nat_lt a m) refl
  where
    by : (t : Bool) → nat_lt a m ≡ t → (a < m) ⊎ (b < n)
    by true e = inl (ltb-true _ _ e)
    by false e = let k = ltb-false _ _ e in inr (omega arith)

-- a letter that a word may begin and go on with
abbrev IsLetter : ℕ → Type 0
IsLetter c = (is_letter c ≡ true) × (is_word_byte c ≡ true)

abbrev Free : ℕ → List Bytes → Type 0
Free n ys = (x : Bytes) × (length x ≡ n) × AllByRecursion IsLetter x × (is_among ys x ≡ false)

free_by : (n : ℕ) (ys : List Bytes) (c : ℕ) → IsLetter c → Free n (tails c ys) → Free (suc n) ys
free_by n ys c is (x, len, letters, free) = (c ∷ x, ap suc len, (is, letters), among_tails c x ys ∙ free)

free : (n : ℕ) (ys : List Bytes) → length ys < room n → Free n ys
free zero [] h = ([], refl, tt, refl)
free zero (y ∷ ys) h = absurd (omega arith)
free (suc n) ys h =
    let most = tails_length ys in
    elim (one_fits (length (tails 97 ys)) (length (tails 98 ys) + length (tails 99 ys) + length (tails 100 ys)) (room n) (3 * room n) (omega arith)) [
      | inl few ↦ free_by n ys 97 (refl, refl) (free n (tails 97 ys) few)
      | inr few ↦ elim (one_fits (length (tails 98 ys)) (length (tails 99 ys) + length (tails 100 ys)) (room n) (2 * room n) (omega arith)) [
        | inl few ↦ free_by n ys 98 (refl, refl) (free n (tails 98 ys) few)
        | inr few ↦ elim (one_fits (length (tails 99 ys)) (length (tails 100 ys)) (room n) (room n) (omega arith)) [
          | inl few ↦ free_by n ys 99 (refl, refl) (free n (tails 99 ys) few)
          | inr few ↦ free_by n ys 100 (refl, refl) (free n (tails 100 ys) few)
        ]
      ]
    ]

word_bytes : (x : Bytes) → AllByRecursion IsLetter x → AllByRecursion (λ c. is_word_byte c ≡ true) x
word_bytes [] letters = tt
word_bytes (c ∷ x) (is, letters) = (is.1, word_bytes x letters)

identifier : (x : Bytes) → 0 < length x → AllByRecursion IsLetter x → IsIdentifier x
identifier [] h letters = absurd (omega arith)
identifier (c ∷ x) h (is, letters) = (is.0, word_bytes x letters)

-- one of the reserved words, or a later one
not_chosen : (x word : Bytes) (first : Keyword) (rest : Option Keyword) (same : Bool) → bytes_eq x word ≡ same → length word < length x →
    rest ≡ None → (if same then Some first else rest) ≡ None
not_chosen x word first rest true e long others = let l : length x ≡ length word = ap length ((bytes_eq-Decides x word).0 e) in absurd (omega arith)
not_chosen x word first rest false e long others = others

-- no reserved word is so long
not_reserved : (x : Bytes) → 9 < length x → keyword x ≡ None
unfolding keyword
not_reserved x long =
    not_chosen x _ _ _ _ refl (omega arith) (
    not_chosen x _ _ _ _ refl (omega arith) (
    not_chosen x _ _ _ _ refl (omega arith) (
    not_chosen x _ _ _ _ refl (omega arith) (
    not_chosen x _ _ _ _ refl (omega arith) (
    not_chosen x _ _ _ _ refl (omega arith) (
    not_chosen x _ _ _ _ refl (omega arith) (
    not_chosen x _ _ _ _ refl (omega arith) (
    not_chosen x _ _ _ _ refl (omega arith) refl))))))))

-- a word that is none of the names
pub record IsFresh (ys : List Bytes) (x : Bytes) : Type 0 where
  pub word : IsWord x
  pub short : length x ≤ max_field_bytes
  pub new : is_among ys x ≡ false

pub fresh_word : (ys : List Bytes) → length ys < 2 ^ 64 → (x : Bytes) × IsFresh ys x
fresh_word ys few =
    let found = free 32 ys few in (
      found.0,
      record {
        word = record { identifier = identifier found.0 (omega (arith, found.1)) found.2; short = omega (arith, found.1); free = not_reserved found.0 (omega (arith, found.1)) };
        short = omega (arith, found.1);
        new = found.3;
      },
    )

abbrev names_of : Scope → List Bytes
names_of [] = []
names_of (d ∷ scope) = d.0 ∷ names_of scope

names_length : (scope : Scope) → length (names_of scope) ≡ length scope
names_length [] = refl
names_length (d ∷ scope) = ap suc (names_length scope)

among_names : (scope : Scope) (x : Bytes) → is_bound scope x ≡ is_among (names_of scope) x
among_names [] x = refl
among_names (d ∷ scope) x = ap (λ r. bytes_eq d.0 x || r) (among_names scope x)

-- a word that is not in scope
pub fresh_name : (scope : Scope) → length scope < 2 ^ 64 → (x : Bytes) × IsWord x × (is_bound scope x ≡ false)
fresh_name scope few =
    let found = fresh_word (names_of scope) (omega (arith, names_length scope)) in
    (found.0, found.1.word, among_names scope found.0 ∙ found.1.new)
