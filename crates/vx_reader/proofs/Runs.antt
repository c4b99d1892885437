-- Runs of bytes at the front of a list.
use Rattle.std.proofs.Common.{◌≡◌, ℕ, zero, suc, ◌<◌, ◌≤◌, Bool, true, false, cond, List, [], ◌∷◌, ◌++◌, length, take, get_or, take_while, refl, sym, ap, subst, arith}
use Rattle.std.specs.List.{AllByRecursion, AllPass}
use Rattle.std.proofs.lemmas.List.Folds.{length-prefix_len}
use Rattle.std.proofs.lemmas.List.Sums.{prefix_len-le-length, take_while-cons}
use Rattle.vx_names.specs.Bytes.{is_letter, is_word_byte}
use Rattle.vx_names.specs.Name.{IsIdentifier}

pub run_within : (p : ℕ → Bool) (bytes : List ℕ) → length (take_while p bytes) ≤ length bytes
run_within p bytes = rw length-prefix_len (prefix_len-le-length p bytes)

pub run_taken : (p : ℕ → Bool) (bytes : List ℕ) → take (length (take_while p bytes)) bytes ≡ take_while p bytes
run_taken p bytes = ap (λ n. take n bytes) (length-prefix_len p bytes)

-- a run that begins is not empty
pub run_some : (p : ℕ → Bool) (bytes : List ℕ) → 0 < length bytes → p (get_or bytes 0 0) ≡ true → 0 < length (take_while p bytes)
run_some p [] some e = absurd (omega arith)
run_some p (b ∷ bs) some e = rw (take_while-cons p b bs, e) (omega arith)

-- each byte of a run passes
with_first : (p : ℕ → Bool) (b : ℕ) (run : List ℕ) (passes : Bool) → p b ≡ passes → AllByRecursion (λ c. p c ≡ true) run →
    AllByRecursion (λ c. p c ≡ true) (cond passes (b ∷ run) [])
with_first p b run true e all = (e, all)
with_first p b run false e all = tt

run_passes : (p : ℕ → Bool) (bs : List ℕ) → AllByRecursion (λ c. p c ≡ true) (take_while p bs)
run_passes p [] = tt
run_passes p (b ∷ bs) = subst (AllByRecursion (λ c. p c ≡ true)) (sym (take_while-cons p b bs)) (with_first p b (take_while p bs) (p b) refl (run_passes p bs))

each_passes : (p : ℕ → Bool) (xs : List ℕ) → AllByRecursion (λ c. p c ≡ true) xs → AllPass p xs
each_passes p [] all k d l = absurd (omega (arith, l))
each_passes p (x ∷ xs) all zero d l = all.0
each_passes p (x ∷ xs) all (suc k) d l = each_passes p xs all.1 k d (omega (arith, l))

pub run_all_pass : (p : ℕ → Bool) (bytes : List ℕ) → AllPass p (take_while p bytes)
run_all_pass p bytes = each_passes p (take_while p bytes) (run_passes p bytes)

-- a run of letters and digits that begins with a letter
pub letter_and_run : (bytes : List ℕ) → 0 < length bytes → is_letter (get_or bytes 0 0) ≡ true → IsIdentifier (take_while is_word_byte bytes)
letter_and_run [] some e = absurd (omega arith)
letter_and_run (b ∷ bs) some e =
    let word : is_word_byte b ≡ true = rw e refl in
    rw (take_while-cons is_word_byte b bs, word) (e, run_passes is_word_byte bs)

-- a letter begins a run of letters and digits
pub letter_some : (bytes : List ℕ) → 0 < length bytes → is_letter (get_or bytes 0 0) ≡ true → 0 < length (take_while is_word_byte bytes)
letter_some bytes some e = run_some is_word_byte bytes some (rw e refl)

-- no bytes, or ones whose first does not pass the test
abbrev pub Stops : (ℕ → Bool) → List ℕ → Type 0
Stops p [] = Unit {0}
Stops p (b ∷ bs) = p b ≡ false

-- a run is what passes in front of bytes that stop it
pub run_is : (p : ℕ → Bool) (xs rest : List ℕ) → AllByRecursion (λ c. p c ≡ true) xs → Stops p rest → take_while p (xs ++ rest) ≡ xs
run_is p [] [] all stops = refl
run_is p [] (b ∷ bs) all stops = rw (take_while-cons p b bs, stops) refl
run_is p (x ∷ xs) rest all stops = rw (take_while-cons p x (xs ++ rest), all.0) (ap (λ run. x ∷ run) (run_is p xs rest all.1 stops))
