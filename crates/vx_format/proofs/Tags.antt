-- Readings of what has a tag, and of what is optional.
use Rattle.std.proofs.Common.{◌≡◌, ℕ, zero, suc, ◌+◌, ◌-◌, ◌^◌, ◌<◌, Bool, true, false, cond, ltb, leb, eqb, ◌&&◌, List, [], ◌∷◌, ◌++◌, length}
use Rattle.std.proofs.Common.{Option, Some, None, Ok, Err, refl, sym, ap, subst, ◌∙◌, inl, inr, arith}
use Rattle.std.proofs.lemmas.Bool.{ltb-true, lt-ltb, eqb-true, eqb-false, ne_eqb, leb-true, le-leb, cases_Bool}
use Rattle.vx_format.specs.declared.fault.FormatFault.TheVariants.{Short}
use Rattle.vx_format.specs.Numbers.{Bytes, number, is_number}
use Rattle.vx_format.specs.Reading.{Cursor, Reading, passed, ◌>>=◌, give, here, check, a_number}
use Rattle.vx_format.specs.Layout.{optional, is_optional}
use Rattle.vx_format.specs.Format.{an_optional, some_symbol, chosen, present, fixed}
use Rattle.vx_format.proofs.Spelled.{AreBytes, IsSpelled, Took, Any, passed_ok, both_true, and_true, ok_is, after, given, recast, retested}
use Rattle.vx_format.proofs.Parts.{number_is, checked, placed}
use Rattle.vx_format.proofs.Readings.{ahead}

-- each reading reads what has its number as tag
abbrev pub AreTagged : {C : Type 0} → ℕ → (C → ℕ) → (C → Bytes) → (C → Bool) → ℕ → List (Reading C) → Type 0
AreTagged q tag body fits t [] = Unit {0}
AreTagged q tag body fits t (read ∷ rest) = IsSpelled q body fits (λ c. (tag c ≡ t) × Unit {0}) read × AreTagged q tag body fits (suc t) rest

pub chosen_is : {C : Type 0} (q : ℕ) (tag : C → ℕ) (body : C → Bytes) (fits : C → Bool) (t : ℕ) (readings : List (Reading C))
    → AreTagged q tag body fits t readings
    → ((c : C) → tag c < t + length readings) → (place k : ℕ) → IsSpelled q body fits (λ c. (tag c ≡ t + k) × Unit {0}) (chosen readings place k)
chosen_is q tag body fits t [] laws most place k = record {
  takes = λ left are x after e. absurd cc;
  again = λ x rest meant fit. absurd (let m = most x in let e = meant.0 in omega arith);
  ends = λ x front back meant fit e some. absurd (let m = most x in let same = meant.0 in omega arith);
}
chosen_is q tag body fits t (read ∷ rest) laws most place zero =
    recast q body body fits fits (λ c. (tag c ≡ t) × Unit {0}) (λ c. (tag c ≡ t + 0) × Unit {0}) read laws.0
    (λ c m f. ((let e = m.0 in omega arith, tt), f, refl)) (λ c m f. ((let e = m.0 in omega arith, tt), f, refl))
chosen_is q tag body fits t (read ∷ rest) laws most place (suc k) =
    recast q body body fits fits (λ c. (tag c ≡ suc t + k) × Unit {0}) (λ c. (tag c ≡ t + suc k) × Unit {0}) (chosen rest place k)
    (chosen_is q tag body fits (suc t) rest laws.1 (λ c. let m = most c in omega arith) place k)
    (λ c m f. ((let e = m.0 in omega arith, tt), f, refl)) (λ c m f. ((let e = m.0 in omega arith, tt), f, refl))

-- a tag, and what it chooses
pub tagged_are : {C : Type 0} (place : ℕ) (tag : C → ℕ) (body : C → Bytes) (fits : C → Bool) (readings : ℕ → List (Reading C))
    → ((q : ℕ) → AreTagged q tag body fits 0 (readings place)) → ((c : C) → (tag c < length (readings place)) × (tag c < 256))
    → IsSpelled place (λ c. number 1 (tag c) ++ body c) fits Any (here >>= λ place. a_number 1 >>= λ tag. chosen (readings place) place tag)
tagged_are place tag body fits readings laws most =
    retested place (λ c. number 1 (tag c) ++ body c) (λ c. is_number 1 (tag c) && fits c) fits Any (here >>= λ place. a_number 1 >>= λ tag.
    chosen (readings place) place tag)
    (placed place (λ c. number 1 (tag c) ++ body c) (λ c. is_number 1 (tag c) && fits c) Any (λ place. a_number 1 >>= λ tag.
    chosen (readings place) place tag)
    (after place (number 1) (is_number 1) Any (a_number 1) tag body fits Any (λ tag. chosen (readings place) place tag) (number_is place 1) (λ c m. tt)
    (λ k fit any. recast (place + length (number 1 k)) body body fits fits (λ c. (tag c ≡ 0 + k) × Unit {0}) (λ c. (tag c ≡ k) × Unit {0})
    (chosen (readings place) place k)
    (chosen_is (place + length (number 1 k)) tag body fits 0 (readings place) (laws (place + length (number 1 k))) (λ c. let m = (most c).0 in
    omega arith) place k)
    (λ c m f. ((let e = m.0 in omega arith, tt), f, refl)) (λ c m f. ((let e = m.0 in omega arith, tt), f, refl)))))
    (λ c m. ap (λ b. b && fits c) (sym (lt-ltb (tag c) (256 ^ 1) (let m = (most c).1 in omega arith))))

-- what one tag reads: a thing of its own
pub leaf : {C : Type 0} (q : ℕ) (tag : C → ℕ) (body : C → Bytes) (fits : C → Bool) (t : ℕ) (x : C) → tag x ≡ t → body x ≡ [] → fits x ≡ true
    → ((c : C) → tag c ≡ t → c ≡ x)
    → IsSpelled q body fits (λ c. (tag c ≡ t) × Unit {0}) (give x)
leaf q tag body fits t x is empty fit only =
    recast q (λ c. []) body (λ c. true) fits (λ c. (tag c ≡ t) × Unit {0}) (λ c. (tag c ≡ t) × Unit {0}) (give x)
    (given q x (λ c. (tag c ≡ t) × Unit {0}) (is, tt) (λ c m. only c m.0))
    (λ c m f. (m, ap fits (only c m.0) ∙ fit, ap body (only c m.0) ∙ empty))
    (λ c m f. (m, refl, ap body (only c m.0) ∙ empty))

-- or a thing made of another
pub branch : {B C : Type 0} (q : ℕ) (tag : C → ℕ) (body : C → Bytes) (fits : C → Bool) (t : ℕ) (spell : B → Bytes) (fine : B → Bool) (read : Reading B)
    (make : B → C)
    → IsSpelled q spell fine Any read → ((b : B) → (tag (make b) ≡ t) × (body (make b) ≡ spell b) × (fits (make b) ≡ fine b))
    → ((c : C) → tag c ≡ t → (b : B) × (c ≡ make b))
    → IsSpelled q body fits (λ c. (tag c ≡ t) × Unit {0}) (read >>= λ b. give (make b))
branch q tag body fits t spell fine read make law is only = record {
  takes = λ left are x after e.
      let p = passed_ok (read (record { place = q; left = left })) (λ b. give (make b)) (x, after) e in
      let w = law.takes left are p.0.0 p.0.1 p.1 in
      let same = is p.0.0 in
      let made : Took q body fits (λ c. (tag c ≡ t) × Unit {0}) left (make p.0.0) p.0.1 = record {
        meant = (same.0, tt);
        fit = same.2 ∙ w.fit;
        parts = w.parts ∙ ap (λ (s : Bytes). s ++ p.0.1.left) (sym same.1);
        places = w.places ∙ ap (λ (s : Bytes). q + length s) (sym same.1);
      } in
      subst (λ (v : _ × Cursor). Took q body fits (λ c. (tag c ≡ t) × Unit {0}) left v.0 v.1) (ok_is (make p.0.0, p.0.1) (x, after) p.2) made;
  again = λ x rest meant fit. let o = only x meant.0 in let same = is o.0 in
      let spelled : body x ≡ spell o.0 = ap body o.1 ∙ same.1 in
      let fine : fine o.0 ≡ true = sym same.2 ∙ ap fits (sym o.1) ∙ fit in
      ap (λ (s : Bytes). (read >>= λ b. give (make b)) (record { place = q; left = s ++ rest })) spelled
      ∙ ap (λ r. passed r (λ b. give (make b))) (law.again o.0 rest tt fine)
      ∙ ap (λ y. Ok (y, record { place = q + length (spell o.0); left = rest })) (sym o.1)
      ∙ ap (λ (s : Bytes). Ok (x, record { place = q + length s; left = rest })) (sym spelled);
  ends = λ x front back meant fit e some. let o = only x meant.0 in let same = is o.0 in
      let fine : fine o.0 ≡ true = sym same.2 ∙ ap fits (sym o.1) ∙ fit in
      ap (λ r. passed r (λ b. give (make b))) (law.ends o.0 front back tt fine (sym (ap body o.1 ∙ same.1) ∙ e) some);
}

and_swap : (a b : Bool) → (a && b) ≡ (b && a)
and_swap true true = refl
and_swap true false = refl
and_swap false true = refl
and_swap false false = refl

-- a reading that looks whether it stays within the end, and whether the bytes are there
pub fixed_is : {C : Type 0} (q place end size : ℕ) (tag : C → ℕ) (body : C → Bytes) (fits : C → Bool) (t : ℕ) (read : Reading C)
    → IsSpelled q body fits (λ c. (tag c ≡ t) × Unit {0}) read → ((c : C) → tag c ≡ t → fits c ≡ true → length (body c) + 1 ≡ size)
    → IsSpelled q body (λ c. fits c && leb (place + (1 + length (body c))) end) (λ c. (tag c ≡ t) × Unit {0}) (fixed end place size read)
fixed_is q place end size tag body fits t read law len =
    recast q body body (λ c. leb (place + size) end && fits c) (λ c. fits c && leb (place + (1 + length (body c))) end) (λ c. (tag c ≡ t) × Unit {0}) (λ c.
    (tag c ≡ t) × Unit {0}) (fixed end place size read)
    (checked q body (λ c. leb (place + size) end) fits (λ c. (tag c ≡ t) × Unit {0}) (leb (place + size) end) place (λ ok. present (size - 1) >>= λ all.
    read) (λ c m. refl)
    (λ ok. ahead q body fits (λ c. (tag c ≡ t) × Unit {0}) (size - 1) (λ all. read) law (λ c m f. let l = len c m.0 f in omega arith)))
    (λ c m f. let both = both_true (leb (place + size) end) (fits c) f in
    (m, and_true _ _ both.1 (le-leb _ _ (let l = len c m.0 both.1 in let w = leb-true _ _ both.0 in omega arith)), refl))
    (λ c m f. let both = both_true (fits c) (leb (place + (1 + length (body c))) end) f in
    (m, and_true _ _ (le-leb _ _ (let l = len c m.0 both.0 in let w = leb-true _ _ both.1 in omega arith)) both.0, refl))

-- ---- what is optional

number_of_optional : Option ℕ → ℕ
number_of_optional None = 4294967295
number_of_optional (Some x) = x

optional_takes : (place bound : ℕ) (left : Bytes) → AreBytes left → (x : Option ℕ) (after : Cursor)
    → an_optional bound (record { place = place; left = left }) ≡ Ok (x, after) → Took place optional (is_optional bound) Any left x after
unfolding an_optional
optional_takes place bound left are x after e =
    let p = passed_ok (a_number 4 (record { place = place; left = left })) (λ n. cond (eqb n 4294967295) (give None) (some_symbol bound place n)) (
      x,
      after,
    ) e in
    let t = (number_is place 4).takes left are p.0.0 p.0.1 p.1 in
    elim (cases_Bool (eqb p.0.0 4294967295)) [
      | inl none ↦
          let e2 = rw none at p.2 in
          let same : p.0.0 ≡ 4294967295 = eqb-true _ _ none in
          let made : Took place optional (is_optional bound) Any left None p.0.1 =
          record {
            meant = tt;
            fit = refl;
            parts = t.parts ∙ ap (λ (k : ℕ). number 4 k ++ p.0.1.left) same;
            places = t.places
                ∙ ap (λ (k : ℕ). place + length (number 4 k)) same;
          } in
          subst (λ (v : Option ℕ × Cursor). Took place optional (is_optional bound) Any left v.0 v.1) (ok_is (None, p.0.1) (x, after) e2) made
      | inr some ↦
          let e2 = rw some at p.2 in
          let q = passed_ok (check (ltb p.0.0 bound) place p.0.1) (λ ok. give (Some p.0.0)) (x, after) e2 in
          let w = check_ok (ltb p.0.0 bound) place p.0.1 q.0 q.1 in
          let most = ltb-true _ _ t.fit in
          let ne = eqb-false _ _ some in
          let made : Took place optional (is_optional bound) Any left (Some p.0.0) p.0.1 =
          record { meant = tt; fit = and_true _ _ (lt-ltb _ _ (omega arith)) w.0; parts = t.parts; places = t.places } in
          subst (λ (v : Option ℕ × Cursor). Took place optional (is_optional bound) Any left v.0 v.1)
          (ok_is (Some p.0.0, p.0.1) (x, after) (subst (λ (v : Unit {0} × Cursor). give (Some p.0.0) v.1 ≡ Ok (x, after)) (sym w.1) q.2)) made
    ]
  where
    check_ok : (b : Bool) (place : ℕ) (at : Cursor) (v : Unit {0} × Cursor) → check b place at ≡ Ok v → (b ≡ true) × ((tt, at) ≡ v)
    check_ok true place at v e = (refl, ok_is (tt, at) v e)
    check_ok false place at v e = absurd cc

pub optional_is : (place bound : ℕ) → IsSpelled place optional (is_optional bound) Any (an_optional bound)
unfolding an_optional
optional_is place bound = record {
  takes = optional_takes place bound;
  again = λ x rest meant fit. again x rest fit;
  ends = λ x front back meant fit e some. ends x front back fit e some;
}
  where
    again : (x : Option ℕ) (rest : Bytes) → is_optional bound x ≡ true
        → an_optional bound (record { place = place; left = optional x ++ rest }) ≡ Ok (x, record { place = place + length (optional x); left = rest })
    again None rest fit = ap (λ r. passed r (λ n. cond (eqb n 4294967295) (give None) (some_symbol bound place n)))
        ((number_is place 4).again 4294967295 rest tt refl)
    again (Some x) rest fit =
        let both = both_true (ltb x 4294967295) (ltb x bound) fit in
        let most = ltb-true _ _ both.0 in
        let ne : eqb x 4294967295 ≡ false = ne_eqb _ _ (λ h. omega arith) in
        ap (λ r. passed r (λ n. cond (eqb n 4294967295) (give None) (some_symbol bound place n)))
        ((number_is place 4).again x rest tt (lt-ltb _ _ (omega arith))) ∙ rw (ne, both.1) refl

    ends : (x : Option ℕ) (front back : Bytes) → is_optional bound x ≡ true → optional x ≡ front ++ back → 0 < length back
        → an_optional bound (record { place = place; left = front }) ≡ Err (Short (place + length front))
    ends None front back fit e some = ap (λ r. passed r (λ n. cond (eqb n 4294967295) (give None) (some_symbol bound place n)))
        ((number_is place 4).ends 4294967295 front back tt refl e some)
    ends (Some x) front back fit e some =
        let both = both_true (ltb x 4294967295) (ltb x bound) fit in
        let most = ltb-true _ _ both.0 in
        ap (λ r. passed r (λ n. cond (eqb n 4294967295) (give None) (some_symbol bound place n)))
        ((number_is place 4).ends x front back tt (lt-ltb _ _ (omega arith)) e some)
