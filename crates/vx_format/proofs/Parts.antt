-- Readings of bytes, numbers and lists.
use Rattle.std.proofs.Common.{◌≡◌, ℕ, zero, suc, ◌+◌, ◌^◌, ◌<◌, ◌≤◌, Bool, true, false, cond, ltb, eqb, ◌&&◌, List, [], ◌∷◌, ◌++◌, length, take}
use Rattle.std.proofs.Common.{drop, Result, Ok, Err, refl, sym, ap, subst, ◌∙◌, inl, inr, append_assoc, arith, length-append}
use Rattle.std.specs.Prelude.{nat_lt}
use Rattle.std.proofs.lemmas.Bool.{ltb-true, ltb-false, lt-ltb, le-ltb, eqb-true, eq-eqb}
use Rattle.std.proofs.lemmas.List.{take_at, drop_at, take-append-drop, length-take, append-nil}
use Rattle.vx_format.specs.declared.fault.FormatFault.{FormatFault}
use Rattle.vx_format.specs.declared.fault.FormatFault.TheVariants.{Short}
use Rattle.vx_format.specs.Numbers.{Bytes, number, number_of, is_number, each, every}
use Rattle.vx_format.specs.Reading.{Cursor, Reading, passed, ◌>>=◌, give, here, check, bytes, a_number, valid, below, listed}
use Rattle.vx_format.proofs.Spelled.{AreBytes, AreBytes-rest, AreBytes-front, IsSpelled, Took, Any, passed_ok, both_true, and_true, cut, ok_is}
use Rattle.vx_format.proofs.Spelled.{after, given, recast}
use Rattle.vx_format.proofs.Numbers.{length_number, number_back, number_again, number_below}

-- ---- bytes

pub guard_ok : {A : Type 0} (b : Bool) (d : FormatFault) (x y : A) → (let r : Result A FormatFault = cond b (Err d) (Ok x) in r ≡ Ok y) → (b ≡ false) × (x ≡ y)
guard_ok true d x y e = absurd cc
guard_ok false d x y e = (refl, cc)

bytes_take : (place count : ℕ) (left : Bytes) → AreBytes left → (x : Bytes) (after : Cursor)
    → bytes count (record { place = place; left = left }) ≡ Ok (x, after) → Took place (λ s. s) (λ s. eqb (length s) count) Any left x after
bytes_take place count left are x after e =
    let g = guard_ok (ltb (length left) count) (Short (place + length left)) (take count left, record { place = place + count; left = drop count left }) (
      x,
      after,
    ) e in
    let enough : count ≤ length left = ltb-false _ _ g.0 in
    let len : length (take count left) ≡ count = omega (arith, length-take count left) in
    let made : Took place (λ s. s) (λ s. eqb (length s) count) Any left (take count left) (record { place = place + count; left = drop count left })
    = record { meant = tt; fit = eq-eqb _ _ len; parts = sym (take-append-drop count left); places = omega (arith, len) } in
    subst (λ (v : Bytes × Cursor). Took place (λ s. s) (λ s. eqb (length s) count) Any left v.0 v.1) g.1 made

pub bytes_are : (place count : ℕ) → IsSpelled place (λ s. s) (λ s. eqb (length s) count) Any (bytes count)
bytes_are place count = record {
  takes = bytes_take place count;
  again = λ x rest meant fit.
      let len : length x ≡ count = eqb-true _ _ fit in
      let enough : ltb (length (x ++ rest)) count ≡ false = le-ltb _ _ (omega (arith, length-append x rest)) in
      rw (enough, take_at x rest count len, drop_at x rest count len, len) refl;
  ends = λ x front back meant fit e some.
      let len : length x ≡ count = eqb-true _ _ fit in
      let few : ltb (length front) count ≡ true = lt-ltb _ _ (omega (arith, length-append front back, ap length e)) in
      rw few refl;
}

-- ---- numbers

-- what stands for it in another way
pub mapped : {A B : Type 0} (place : ℕ) (spell : A → Bytes) (fits : A → Bool) (read : Reading A) (make : A → B) (back : B → A) (fitsB : B → Bool)
    → IsSpelled place spell fits Any read
    → ((a : A) → AreBytes (spell a) → fits a ≡ true → (back (make a) ≡ a) × (fitsB (make a) ≡ true))
    → ((b : B) → fitsB b ≡ true → (make (back b) ≡ b) × (fits (back b) ≡ true))
    → IsSpelled place (λ b. spell (back b)) fitsB Any (read >>= λ a. give (make a))
mapped place spell fits read make back fitsB law there here_ = record {
  takes = λ left are x after e.
      let p = passed_ok (read (record { place = place; left = left })) (λ a. give (make a)) (x, after) e in
      let t = law.takes left are p.0.0 p.0.1 p.1 in
      let w = there p.0.0 (AreBytes-front (spell p.0.0) p.0.1.left (subst AreBytes t.parts are)) t.fit in
      let made : Took place (λ b. spell (back b)) fitsB Any left (make p.0.0) p.0.1 = record {
        meant = tt;
        fit = w.1;
        parts = t.parts ∙ ap (λ a. spell a ++ p.0.1.left) (sym w.0);
        places = t.places ∙ ap (λ a. place + length (spell a)) (sym w.0);
      } in
      subst (λ (v : _ × Cursor). Took place (λ b. spell (back b)) fitsB Any left v.0 v.1) (ok_is (make p.0.0, p.0.1) (x, after) p.2) made;
  again = λ x rest meant fit. let w = here_ x fit in
      ap (λ r. passed r (λ a. give (make a))) (law.again (back x) rest tt w.1)
      ∙ ap (λ y. Ok (y, record { place = place + length (spell (back x)); left = rest })) w.0;
  ends = λ x front back_ meant fit e some. let w = here_ x fit in ap (λ r. passed r (λ a. give (make a))) (law.ends (back x) front back_ tt w.1 e some);
}

pub number_is : (place width : ℕ) → IsSpelled place (number width) (is_number width) Any (a_number width)
number_is place width = mapped place (λ s. s) (λ s. eqb (length s) width) (bytes width) number_of (number width) (is_number width) (bytes_are place width)
    (λ s are fit. let len : length s ≡ width = eqb-true _ _ fit in
    (subst (λ (w : ℕ). number w (number_of s) ≡ s) len (number_back s are), lt-ltb _ _ (subst (λ (w : ℕ). number_of s < 256 ^ w) len (number_below s are))))
    (λ n fit. (number_again width n (ltb-true _ _ fit), eq-eqb _ _ (length_number width n)))

-- a test of what was read
pub checked : {C : Type 0} (place : ℕ) (spell : C → Bytes) (test : C → Bool) (fits : C → Bool) (Meant : C → Type 0) (b : Bool) (at : ℕ) (next : Unit {0}
    → Reading C)
    → ((c : C) → Meant c → test c ≡ b) → (b ≡ true → IsSpelled place spell fits Meant (next tt))
    → IsSpelled place spell (λ c. test c && fits c) Meant (check b at >>= next)
checked place spell test fits Meant true at next same law = let l = law refl in record {
  takes = λ left are x after e. let t = l.takes left are x after e in
      record { meant = t.meant; fit = and_true _ _ (same x t.meant) t.fit; parts = t.parts; places = t.places };
  again = λ x rest meant fit. l.again x rest meant (both_true (test x) (fits x) fit).1;
  ends = λ x front back meant fit e some. l.ends x front back meant (both_true (test x) (fits x) fit).1 e some;
}
checked place spell test fits Meant false at next same law = record {
  takes = λ left are x after e. absurd cc;
  again = λ x rest meant fit. absurd (let one = (both_true (test x) (fits x) fit).0 in let two = same x meant in cc);
  ends = λ x front back meant fit e some. absurd (let one = (both_true (test x) (fits x) fit).0 in let two = same x meant in cc);
}

-- the place where a reading begins
pub placed : {C : Type 0} (place : ℕ) (spell : C → Bytes) (fits : C → Bool) (Meant : C → Type 0) (next : ℕ → Reading C)
    → IsSpelled place spell fits Meant (next place) → IsSpelled place spell fits Meant (here >>= next)
placed place spell fits Meant next law = record { takes = law.takes; again = law.again; ends = law.ends }

pub and_true_end : (a : Bool) → (a && true) ≡ a
and_true_end true = refl
and_true_end false = refl

pub text_end : (s : Bytes) → s ++ [] ≡ s
text_end s = append-nil s

pub valid_is : (place width : ℕ) (test : ℕ → Bool) → IsSpelled place (number width) (λ n. is_number width n && test n) Any (valid width test)
valid_is place width test =
    recast place (λ n. number width n ++ []) (number width) (λ n. is_number width n && (test n && true)) (λ n. is_number width n && test n) Any Any
    (valid width test)
    (placed place (λ n. number width n ++ []) (λ n. is_number width n && (test n && true)) Any (λ place. a_number width >>= λ n.
    check (test n) place >>= λ ok. give n)
    (after place (number width) (is_number width) Any (a_number width) (λ n. n) (λ n. []) (λ n. test n && true) Any (λ n. check (test n) place >>= λ ok.
    give n) (number_is place width) (λ c m. tt)
    (λ n fit any. checked (place + length (number width n)) (λ c. []) test (λ c. true) (λ c. (c ≡ n) × Unit {0}) (test n) place (λ ok. give n) (λ c m.
    ap test m.0)
    (λ ok. given (place + length (number width n)) n (λ c. (c ≡ n) × Unit {0}) (refl, tt) (λ c m. m.0)))))
    (λ n m fit. (tt, ap (λ b. is_number width n && b) (sym (and_true_end (test n))) ∙ fit, sym (text_end (number width n))))
    (λ n m fit. (tt, ap (λ b. is_number width n && b) (and_true_end (test n)) ∙ fit, sym (text_end (number width n))))

pub below_is : (place width bound : ℕ) → IsSpelled place (number width) (λ n. is_number width n && nat_lt n bound) Any (below width bound)
below_is place width bound = valid_is place width (λ n. nat_lt n bound)

-- ---- lists

pub listed_takes : {A : Type 0} (spell : A → Bytes) (fits : ℕ → A → Bool) (read : ℕ → Reading A) → ((p i : ℕ) → IsSpelled p spell (fits i) Any (read i))
    → (count first place : ℕ) (left : Bytes) → AreBytes left → (xs : List A) (after : Cursor)
    → listed count first read (record { place = place; left = left }) ≡ Ok (xs, after)
    → Took place (each spell) (λ xs. every fits first xs && eqb (length xs) count) Any left xs after
listed_takes spell fits read law zero first place left are xs after e =
    subst (λ (v : List _ × Cursor). Took place (each spell) (λ xs. every fits first xs && eqb (length xs) 0) Any left v.0 v.1)
    (ok_is ([], record { place = place; left = left }) (xs, after) e)
    (record { meant = tt; fit = refl; parts = refl; places = omega arith })
listed_takes spell fits read law (suc count) first place left are xs after e =
    let p = passed_ok (read first (record { place = place; left = left })) (λ x. listed count (suc first) read >>= λ rest. give (x ∷ rest)) (xs, after) e in
    let q = passed_ok (listed count (suc first) read p.0.1) (λ rest. give (p.0.0 ∷ rest)) (xs, after) p.2 in
    let t = (law place first).takes left are p.0.0 p.0.1 p.1 in
    let u = listed_takes spell fits read law count (suc first) p.0.1.place p.0.1.left
    (AreBytes-rest (spell p.0.0) p.0.1.left (subst AreBytes t.parts are)) q.0.0 q.0.1 q.1 in
    let both = both_true (every fits (suc first) q.0.0) (eqb (length q.0.0) count) u.fit in
    let one_more : eqb (suc (length q.0.0)) (suc count) ≡ true = eq-eqb _ _ (ap suc (eqb-true _ _ both.1)) in
    let fit : ((fits first p.0.0 && every fits (suc first) q.0.0) && eqb (suc (length q.0.0)) (suc count)) ≡ true = rw (t.fit, both.0) one_more in
    let made : Took place (each spell) (λ xs. every fits first xs && eqb (length xs) (suc count)) Any left (p.0.0 ∷ q.0.0) q.0.1 = record {
      meant = tt;
      fit = fit;
      parts = t.parts ∙ ap (λ (s : Bytes). spell p.0.0 ++ s) u.parts ∙ sym (append_assoc (spell p.0.0) (each spell q.0.0) q.0.1.left);
      places = (let one = t.places in let two = u.places in omega (arith, one, two, length-append (spell p.0.0) (each spell q.0.0)));
    } in
    subst (λ (v : List _ × Cursor). Took place (each spell) (λ xs. every fits first xs && eqb (length xs) (suc count)) Any left v.0 v.1)
    (ok_is (p.0.0 ∷ q.0.0, q.0.1) (xs, after) q.2) made

pub listed_again : {A : Type 0} (spell : A → Bytes) (fits : ℕ → A → Bool) (read : ℕ → Reading A) → ((p i : ℕ) → IsSpelled p spell (fits i) Any (read i))
    → (xs : List A) (first place : ℕ) (rest : Bytes) → every fits first xs ≡ true
    → listed (length xs) first read (record { place = place; left = each spell xs ++ rest }) ≡ Ok (
      xs,
      record { place = place + length (each spell xs); left = rest },
    )
listed_again spell fits read law [] first place rest fit = let e : place + 0 ≡ place = omega arith in rw e refl
listed_again spell fits read law (x ∷ xs) first place rest fit =
    let both = both_true (fits first x) (every fits (suc first) xs) fit in
    let one : read first (record { place = place; left = (spell x ++ each spell xs) ++ rest }) ≡ Ok (
      x,
      record { place = place + length (spell x); left = each spell xs ++ rest },
    )
    = ap (λ (s : Bytes). read first (record { place = place; left = s })) (append_assoc (spell x) (each spell xs) rest)
    ∙ (law place first).again x (each spell xs ++ rest) tt both.0 in
    let two = listed_again spell fits read law xs (suc first) (place + length (spell x)) rest both.1 in
    let counted : (place + length (spell x)) + length (each spell xs) ≡ place + length (spell x ++ each spell xs) =
    omega (arith, length-append (spell x) (each spell xs)) in
    ap (λ r. passed r (λ x. listed (length xs) (suc first) read >>= λ rest. give (x ∷ rest))) one ∙ ap (λ r. passed r (λ rest. give (x ∷ rest))) two
    ∙ ap (λ (q : ℕ). Ok (x ∷ xs, record { place = q; left = rest })) counted

pub listed_ends : {A : Type 0} (spell : A → Bytes) (fits : ℕ → A → Bool) (read : ℕ → Reading A) → ((p i : ℕ) → IsSpelled p spell (fits i) Any (read i))
    → (xs : List A) (first place : ℕ) (front back : Bytes) → every fits first xs ≡ true → each spell xs ≡ front ++ back → 0 < length back
    → listed (length xs) first read (record { place = place; left = front }) ≡ Err (Short (place + length front))
listed_ends spell fits read law [] first place front back fit e some = absurd (let counted = ap length e in omega (arith, length-append front back))
listed_ends spell fits read law (x ∷ xs) first place front back fit e some =
    let both = both_true (fits first x) (every fits (suc first) xs) fit in
    elim (cut (spell x) (each spell xs) front back e) [
      | inl w ↦ ap (λ r. passed r (λ x. listed (length xs) (suc first) read >>= λ rest. give (x ∷ rest))) ((law place first).ends x front w.0 tt both.0 w.1 w.2)
      | inr w ↦
          let one : read first (record { place = place; left = front }) ≡ Ok (x, record { place = place + length (spell x); left = w.0 })
          = ap (λ (s : Bytes). read first (record { place = place; left = s })) w.1 ∙ (law place first).again x w.0 tt both.0 in
          let two = listed_ends spell fits read law xs (suc first) (place + length (spell x)) w.0 back both.1 w.2 some in
          let counted : (place + length (spell x)) + length w.0 ≡ place + length front = omega (arith, length-append (spell x) w.0, ap length w.1) in
          ap (λ r. passed r (λ x. listed (length xs) (suc first) read >>= λ rest. give (x ∷ rest))) one ∙ ap (λ r. passed r (λ rest. give (x ∷ rest))) two
          ∙ ap (λ (q : ℕ). Err (Short q)) counted
    ]

pub list_is : {A : Type 0} (spell : A → Bytes) (fits : ℕ → A → Bool) (read : ℕ → Reading A) → ((p i : ℕ) → IsSpelled p spell (fits i) Any (read i))
    → (place count first : ℕ) → IsSpelled place (each spell) (λ xs. every fits first xs && eqb (length xs) count) Any (listed count first read)
list_is spell fits read law place count first = record {
  takes = listed_takes spell fits read law count first place;
  again = λ xs rest meant fit. let both = both_true (every fits first xs) (eqb (length xs) count) fit in
      subst (λ (n : ℕ). listed n first read (record { place = place; left = each spell xs ++ rest }) ≡ Ok (
        xs,
        record { place = place + length (each spell xs); left = rest },
      )) (eqb-true _ _ both.1)
      (listed_again spell fits read law xs first place rest both.0);
  ends = λ xs front back meant fit e some. let both = both_true (every fits first xs) (eqb (length xs) count) fit in
      subst (λ (n : ℕ). listed n first read (record { place = place; left = front }) ≡ Err (Short (place + length front))) (eqb-true _ _ both.1)
      (listed_ends spell fits read law xs first place front back both.0 e some);
}

-- so many
pub count_is : {A : Type 0} (spell : A → Bytes) (fits : ℕ → A → Bool) (read : ℕ → Reading A) → ((p i : ℕ) → IsSpelled p spell (fits i) Any (read i))
    → (place count first : ℕ) → IsSpelled place (each spell) (every fits first) (λ xs. length xs ≡ count) (listed count first read)
count_is spell fits read law place count first =
    recast place (each spell) (each spell) (λ xs. every fits first xs && eqb (length xs) count) (every fits first) Any (λ xs. length xs ≡ count)
    (listed count first read) (list_is spell fits read law place count first)
    (λ xs m fit. let both = both_true (every fits first xs) (eqb (length xs) count) fit in (eqb-true _ _ both.1, both.0, refl))
    (λ xs m fit. (tt, and_true _ _ fit (eq-eqb _ _ m), refl))
