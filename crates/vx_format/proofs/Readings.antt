-- Readings up to an end, of what has a tag, of what is optional.
use Rattle.std.proofs.Common.{◌≡◌, ℕ, zero, suc, ◌+◌, ◌-◌, ◌<◌, ◌≤◌, Bool, true, false, ltb, leb, eqb, ◌&&◌, List, [], ◌∷◌, ◌++◌, length, Ok, Err}
use Rattle.std.proofs.Common.{refl, sym, ap, subst, ◌∙◌, inl, inr, append_assoc, arith, length-append}
use Rattle.std.specs.Int.{w128, cast_unsigned, cast_signed}
use Rattle.std.proofs.lemmas.Bool.{ltb-true, lt-ltb, le-ltb, eqb-true, eqb-false, eq-eqb, ne_eqb, leb-true, le-leb, cases_Bool}
use Rattle.vx_format.specs.declared.fault.FormatFault.TheVariants.{Short}
use Rattle.vx_format.specs.Numbers.{Bytes, number, is_number, each, every, follow, integer, is_integer}
use Rattle.vx_format.specs.Reading.{Cursor, Reading, passed, ◌>>=◌, give, bytes, a_number, listed, until}
use Rattle.vx_format.specs.Layout.{long, list, is_list}
use Rattle.vx_format.specs.Format.{a_long, a_list, an_integer, present}
use Rattle.vx_format.proofs.Spelled.{AreBytes, AreBytes-rest, IsSpelled, Took, Any, passed_ok, both_true, and_true, cut, ok_is, after, recast, retested}
use Rattle.vx_format.proofs.Numbers.{unsigned_fits, signed_fits, signed_back, signed_again}
use Rattle.vx_format.proofs.Parts.{mapped, number_is, bytes_are, count_is, guard_ok, and_true_end}

-- ---- lists up to an end

until_takes : {A : Type 0} (spell : A → Bytes) (fits : ℕ → A → Bool) (grown : ℕ → A → ℕ) (end : ℕ) (read : ℕ → Reading A)
    → ((p d : ℕ) → p < end → IsSpelled p spell (λ x. fits d x && leb (p + length (spell x)) end) Any (read d)) → ((x : A) → 0 < length (spell x))
    → (most place depth n : ℕ) (left : Bytes) → AreBytes left → (xs : List A) (after : Cursor) → end ≡ place + n → n ≤ most
    → until most end read grown depth (record { place = place; left = left }) ≡ Ok (xs, after)
    → Took place (each spell) (λ xs. follow fits grown depth xs && eqb (length (each spell xs)) n) Any left xs after
until_takes spell fits grown end read law some zero place depth n left are xs after at within e =
    subst (λ (v : List _ × Cursor). Took place (each spell) (λ xs. follow fits grown depth xs && eqb (length (each spell xs)) n) Any left v.0 v.1)
    (ok_is ([], record { place = place; left = left }) (xs, after) e)
    (record { meant = tt; fit = eq-eqb _ _ (omega arith); parts = refl; places = omega arith })
until_takes spell fits grown end read law some (suc most) place depth n left are xs after at within e =
    elim (cases_Bool (eqb place end)) [
      | inl over ↦
          let e2 = rw over at e in
          let same = eqb-true _ _ over in
          subst (λ (v : List _ × Cursor). Took place (each spell) (λ xs. follow fits grown depth xs && eqb (length (each spell xs)) n) Any left v.0 v.1)
          (ok_is ([], record { place = place; left = left }) (xs, after) e2)
          (record { meant = tt; fit = eq-eqb _ _ (omega arith); parts = refl; places = omega arith })
      | inr more ↦
          let e2 = rw more at e in
          let p = passed_ok (read depth (record { place = place; left = left })) (λ x. until most end read grown (grown depth x) >>= λ rest. give (x ∷ rest))
          (xs, after) e2 in
          let q = passed_ok (until most end read grown (grown depth p.0.0) p.0.1) (λ rest. give (p.0.0 ∷ rest)) (xs, after) p.2 in
          let ne = eqb-false _ _ more in
          let before : place < end = omega arith in
          let t = (law place depth before).takes left are p.0.0 p.0.1 p.1 in
          let both = both_true (fits depth p.0.0) (leb (place + length (spell p.0.0)) end) t.fit in
          let inside : place + length (spell p.0.0) ≤ end = leb-true _ _ both.1 in
          let long = some p.0.0 in
          let went = t.places in
          let u = until_takes spell fits grown end read law some most p.0.1.place (grown depth p.0.0) (n - length (spell p.0.0)) p.0.1.left
          (AreBytes-rest (spell p.0.0) p.0.1.left (subst AreBytes t.parts are)) q.0.0 q.0.1 (omega arith) (omega arith) q.1 in
          let rest = both_true (follow fits grown (grown depth p.0.0) q.0.0) (eqb (length (each spell q.0.0)) (n - length (spell p.0.0))) u.fit in
          let len = eqb-true _ _ rest.1 in
          let whole : eqb (length (spell p.0.0 ++ each spell q.0.0)) n ≡ true = eq-eqb _ _ (omega (arith, length-append (spell p.0.0) (each spell q.0.0))) in
          let made : Took place (each spell) (λ xs. follow fits grown depth xs && eqb (length (each spell xs)) n) Any left (p.0.0 ∷ q.0.0) q.0.1 = record {
            meant = tt;
            fit = and_true _ _ (and_true _ _ both.0 rest.0) whole;
            parts = t.parts ∙ ap (λ (s : Bytes). spell p.0.0 ++ s) u.parts ∙ sym (append_assoc (spell p.0.0) (each spell q.0.0) q.0.1.left);
            places = (let two = u.places in omega (arith, two, length-append (spell p.0.0) (each spell q.0.0)));
          } in
          subst (λ (v : List _ × Cursor). Took place (each spell) (λ xs. follow fits grown depth xs && eqb (length (each spell xs)) n) Any left v.0 v.1)
          (ok_is (p.0.0 ∷ q.0.0, q.0.1) (xs, after) q.2) made
    ]

until_again : {A : Type 0} (spell : A → Bytes) (fits : ℕ → A → Bool) (grown : ℕ → A → ℕ) (end : ℕ) (read : ℕ → Reading A)
    → ((p d : ℕ) → p < end → IsSpelled p spell (λ x. fits d x && leb (p + length (spell x)) end) Any (read d)) → ((x : A) → 0 < length (spell x))
    → (xs : List A) (most place depth : ℕ) (rest : Bytes) → end ≡ place + length (each spell xs) → length (each spell xs) ≤ most
    → follow fits grown depth xs ≡ true
    → until most end read grown depth (record { place = place; left = each spell xs ++ rest }) ≡ Ok (
      xs,
      record { place = place + length (each spell xs); left = rest },
    )
until_again spell fits grown end read law some [] zero place depth rest at within fit = let e : place + 0 ≡ place = omega arith in rw e refl
until_again spell fits grown end read law some [] (suc most) place depth rest at within fit =
    let over : eqb place end ≡ true = eq-eqb _ _ (omega arith) in
    let e : place + 0 ≡ place = omega arith in rw (over, e) refl
until_again spell fits grown end read law some (x ∷ xs) zero place depth rest at within fit =
    absurd (let s = some x in omega (arith, length-append (spell x) (each spell xs)))
until_again spell fits grown end read law some (x ∷ xs) (suc most) place depth rest at within fit =
    let s = some x in
    let len = length-append (spell x) (each spell xs) in
    let more : eqb place end ≡ false = ne_eqb _ _ (λ h. omega arith) in
    let both = both_true (fits depth x) (follow fits grown (grown depth x) xs) fit in
    let inside : leb (place + length (spell x)) end ≡ true = le-leb _ _ (omega arith) in
    let one : read depth (record { place = place; left = (spell x ++ each spell xs) ++ rest }) ≡ Ok (
      x,
      record { place = place + length (spell x); left = each spell xs ++ rest },
    )
    = ap (λ (s : Bytes). read depth (record { place = place; left = s })) (append_assoc (spell x) (each spell xs) rest)
    ∙ (law place depth (omega arith)).again x (each spell xs ++ rest) tt (and_true _ _ both.0 inside) in
    let two = until_again spell fits grown end read law some xs most (place + length (spell x)) (grown depth x) rest (omega arith) (omega arith) both.1 in
    let counted : (place + length (spell x)) + length (each spell xs) ≡ place + length (spell x ++ each spell xs) = omega arith in
    rw more (ap (λ r. passed r (λ x. until most end read grown (grown depth x) >>= λ rest. give (x ∷ rest))) one
    ∙ ap (λ r. passed r (λ rest. give (x ∷ rest))) two ∙ ap (λ (q : ℕ). Ok (x ∷ xs, record { place = q; left = rest })) counted)

until_ends : {A : Type 0} (spell : A → Bytes) (fits : ℕ → A → Bool) (grown : ℕ → A → ℕ) (end : ℕ) (read : ℕ → Reading A)
    → ((p d : ℕ) → p < end → IsSpelled p spell (λ x. fits d x && leb (p + length (spell x)) end) Any (read d)) → ((x : A) → 0 < length (spell x))
    → (xs : List A) (most place depth : ℕ) (front back : Bytes) → end ≡ place + length (each spell xs) → length (each spell xs) ≤ most
    → follow fits grown depth xs ≡ true
    → each spell xs ≡ front ++ back → 0 < length back
    → until most end read grown depth (record { place = place; left = front }) ≡ Err (Short (place + length front))
until_ends spell fits grown end read law some [] most place depth front back at within fit e any =
    absurd (let counted = ap length e in omega (arith, length-append front back))
until_ends spell fits grown end read law some (x ∷ xs) zero place depth front back at within fit e any =
    absurd (let s = some x in omega (arith, length-append (spell x) (each spell xs)))
until_ends spell fits grown end read law some (x ∷ xs) (suc most) place depth front back at within fit e any =
    let s = some x in
    let len = length-append (spell x) (each spell xs) in
    let more : eqb place end ≡ false = ne_eqb _ _ (λ h. omega arith) in
    let both = both_true (fits depth x) (follow fits grown (grown depth x) xs) fit in
    let inside : leb (place + length (spell x)) end ≡ true = le-leb _ _ (omega arith) in
    rw more (elim (cut (spell x) (each spell xs) front back e) [
      | inl w ↦ ap (λ r. passed r (λ x. until most end read grown (grown depth x) >>= λ rest. give (x ∷ rest)))
          ((law place depth (omega arith)).ends x front w.0 tt (and_true _ _ both.0 inside) w.1 w.2)
      | inr w ↦
          let one : read depth (record { place = place; left = front }) ≡ Ok (x, record { place = place + length (spell x); left = w.0 })
          = ap (λ (s : Bytes). read depth (record { place = place; left = s })) w.1
          ∙ (law place depth (omega arith)).again x w.0 tt (and_true _ _ both.0 inside) in
          let two = until_ends spell fits grown end read law some xs most (place + length (spell x)) (grown depth x) w.0 back (omega arith)
          (omega arith) both.1 w.2 any in
          let counted : (place + length (spell x)) + length w.0 ≡ place + length front = omega (arith, length-append (spell x) w.0, ap length w.1) in
          ap (λ r. passed r (λ x. until most end read grown (grown depth x) >>= λ rest. give (x ∷ rest))) one
          ∙ ap (λ r. passed r (λ rest. give (x ∷ rest))) two ∙ ap (λ (q : ℕ). Err (Short q)) counted
    ])

-- a list of so many bytes
pub until_is : {A : Type 0} (spell : A → Bytes) (fits : ℕ → A → Bool) (grown : ℕ → A → ℕ) (place n depth : ℕ) (read : ℕ → Reading A)
    → ((p d : ℕ) → p < place + n → IsSpelled p spell (λ x. fits d x && leb (p + length (spell x)) (place + n)) Any (read d)) → ((x : A) → 0 < length (spell x))
    → IsSpelled place (each spell) (follow fits grown depth) (λ xs. length (each spell xs) ≡ n) (until n (place + n) read grown depth)
until_is spell fits grown place n depth read law some = record {
  takes = λ left are xs after e.
      let t = until_takes spell fits grown (place + n) read law some n place depth n left are xs after refl (omega arith) e in
      let both = both_true (follow fits grown depth xs) (eqb (length (each spell xs)) n) t.fit in
      record { meant = eqb-true _ _ both.1; fit = both.0; parts = t.parts; places = t.places };
  again = λ xs rest meant fit. until_again spell fits grown (place + n) read law some xs n place depth rest (omega arith) (omega arith) fit;
  ends = λ xs front back meant fit e any. until_ends spell fits grown (place + n) read law some xs n place depth front back (omega arith)
      (omega arith) fit e any;
}

-- ---- bytes that must be there

pub ahead : {C : Type 0} (place : ℕ) (spell : C → Bytes) (fits : C → Bool) (Meant : C → Type 0) (count : ℕ) (next : Unit {0} → Reading C)
    → IsSpelled place spell fits Meant (next tt) → ((c : C) → Meant c → fits c ≡ true → count ≤ length (spell c))
    → IsSpelled place spell fits Meant (present count >>= next)
ahead place spell fits Meant count next law long = record {
  takes = λ left are x after e.
      let p = passed_ok (present count (record { place = place; left = left })) next (x, after) e in
      let g = guard_ok (ltb (length left) count) (Short (place + length left)) (tt, record { place = place; left = left }) p.0 p.1 in
      law.takes left are x after (subst (λ (v : Unit {0} × Cursor). next v.0 v.1 ≡ Ok (x, after)) (sym g.1) p.2);
  again = λ x rest meant fit.
      let enough : ltb (length (spell x ++ rest)) count ≡ false = le-ltb _ _ (let l = long x meant fit in omega (arith, length-append (spell x) rest)) in
      rw enough (law.again x rest meant fit);
  ends = λ x front back meant fit e some.
      elim (cases_Bool (ltb (length front) count)) [
        | inl few ↦ rw few refl
        | inr enough ↦ rw enough (law.ends x front back meant fit e some)
      ];
}

-- ---- what has its length before it

pub long_is : (place width : ℕ) → IsSpelled place (long width) (λ s. is_number width (length s)) Any (a_long width)
long_is place width =
    retested place (long width) (λ s. is_number width (length s) && true) (λ s. is_number width (length s)) Any (a_long width)
    (after place (number width) (is_number width) Any (a_number width) length (λ s. s) (λ s. true) Any (λ count. bytes count) (number_is place width)
    (λ c m. tt)
    (λ count fit any. recast (place + length (number width count)) (λ s. s) (λ s. s) (λ s. eqb (length s) count) (λ s. true) Any (λ s. (length s ≡ count)
    × Unit {0}) (bytes count) (bytes_are (place + length (number width count)) count)
    (λ s m fit. ((eqb-true _ _ fit, tt), refl, refl)) (λ s m fit. (tt, eq-eqb _ _ m.0, refl))))
    (λ s m. sym (and_true_end (is_number width (length s))))

pub lists_are : {A : Type 0} (spell : A → Bytes) (fits : A → Bool) (read : Reading A) → ((p : ℕ) → IsSpelled p spell fits Any read)
    → (place width : ℕ) → IsSpelled place (list width spell) (is_list width fits) Any (a_list width read)
lists_are spell fits read law place width =
    after place (number width) (is_number width) Any (a_number width) length (each spell) (every (λ i. fits) 0) Any (λ count. listed count 0 (λ i. read))
    (number_is place width) (λ c m. tt)
    (λ count fit any. recast (place + length (number width count)) (each spell) (each spell) (every (λ i. fits) 0) (every (λ i. fits) 0) (λ xs.
    length xs ≡ count) (λ xs. (length xs ≡ count) × Unit {0}) (listed count 0 (λ i. read))
    (count_is spell (λ i. fits) (λ i. read) (λ p i. law p) (place + length (number width count)) count 0)
    (λ xs m fit. ((m, tt), fit, refl)) (λ xs m fit. (m.0, fit, refl)))

-- ---- numbers with a sign

pub integer_is : (place : ℕ) → IsSpelled place integer is_integer Any an_integer
unfolding an_integer
integer_is place = mapped place (number 16) (is_number 16) (a_number 16) (cast_signed w128) (cast_unsigned w128) is_integer (number_is place 16)
    (λ n are fit. (signed_back n (ltb-true _ _ fit), signed_fits n (ltb-true _ _ fit)))
    (λ z fit. (signed_again z fit, lt-ltb _ _ (unsigned_fits z fit)))
