-- A reading and the bytes that it reads: what is read was spelled so, what is spelled so is read, and of a front of it the fault is that the bytes end.
use Rattle.std.proofs.Common.{◌≡◌, ℕ, ◌+◌, ◌<◌, Bool, true, false, ◌&&◌, [], ◌∷◌, ◌++◌, length, Result, Ok, Err, refl, sym, ap, subst, ◌∙◌, ◌⊎◌, inl}
use Rattle.std.proofs.Common.{inr, append_assoc, arith, length-append}
use Rattle.vx_format.specs.declared.fault.FormatFault.{FormatFault}
use Rattle.vx_format.specs.declared.fault.FormatFault.TheVariants.{Short}
use Rattle.vx_format.specs.Numbers.{Bytes}
pub use Rattle.vx_format.specs.Laws.{AreBytes}
use Rattle.vx_format.specs.Reading.{Cursor, Reading, passed, ◌>>=◌, give, here}

pub AreBytes-rest : (a b : Bytes) → AreBytes (a ++ b) → AreBytes b
AreBytes-rest [] b h = h
AreBytes-rest (x ∷ a) b h = AreBytes-rest a b h.1

pub AreBytes-front : (a b : Bytes) → AreBytes (a ++ b) → AreBytes a
AreBytes-front [] b h = tt
AreBytes-front (x ∷ a) b h = (h.0, AreBytes-front a b h.1)

-- what was read, and from what
pub record Took {A : Type 0} (place : ℕ) (spell : A → Bytes) (fits : A → Bool) (Meant : A → Type 0) (left : Bytes) (x : A) (after : Cursor) : Type 0 where
  pub meant : Meant x
  pub fit : fits x ≡ true
  pub parts : left ≡ spell x ++ after.left
  pub places : after.place ≡ place + length (spell x)

pub record IsSpelled {A : Type 0} (place : ℕ) (spell : A → Bytes) (fits : A → Bool) (Meant : A → Type 0) (read : Reading A) : Type 0 where
  pub takes : (left : Bytes) → AreBytes left → (x : A) (after : Cursor) → read (record { place = place; left = left }) ≡ Ok (x, after)
      → Took place spell fits Meant left x after
  pub again : (x : A) (rest : Bytes) → Meant x → fits x ≡ true
      → read (record { place = place; left = spell x ++ rest }) ≡ Ok (x, record { place = place + length (spell x); left = rest })
  pub ends : (x : A) (front back : Bytes) → Meant x → fits x ≡ true → spell x ≡ front ++ back → 0 < length back
      → read (record { place = place; left = front }) ≡ Err (Short (place + length front))

abbrev pub Any : {A : Type 0} → A → Type 0
Any x = Unit {0}

-- ---- steps

pub passed_ok : {A B : Type 0} (r : Result (A × Cursor) FormatFault) (next : A → Reading B) (y : B × Cursor) → passed r next ≡ Ok y → (v : A × Cursor)
    × (r ≡ Ok v) × (next v.0 v.1 ≡ Ok y)
passed_ok (Ok v) next y e = (v, refl, e)
passed_ok (Err fault) next y e = absurd cc

pub both_true : (a b : Bool) → (a && b) ≡ true → (a ≡ true) × (b ≡ true)
both_true true b e = (refl, e)
both_true false b e = absurd cc

pub and_true : (a b : Bool) → a ≡ true → b ≡ true → (a && b) ≡ true
and_true a b e f = rw (e, f) refl

pub ok_is : {A : Type 0} (x y : A × Cursor) → (let r : Result (A × Cursor) FormatFault = Ok x in r ≡ Ok y) → x ≡ y
ok_is x y e = cc

-- where a text of two parts is cut
pub cut : (a b front back : Bytes) → a ++ b ≡ front ++ back
    → ((m : Bytes) × (a ≡ front ++ m) × (0 < length m)) ⊎ ((m : Bytes) × (front ≡ a ++ m) × (b ≡ m ++ back))
cut [] b front back e = inr (front, refl, e)
cut (x ∷ a) b [] back e = inl (x ∷ a, refl, omega arith)
cut (x ∷ a) b (y ∷ front) back e =
    let same : x ≡ y = cc in
    let rest : a ++ b ≡ front ++ back = cc in
    elim (cut a b front back rest) [
      | inl w ↦ inl (w.0, (let p = w.1 in cc), w.2)
      | inr w ↦ inr (w.0, (let p = w.1 in cc), w.2)
    ]

-- ---- one reading, and then another

then_takes : {A C : Type 0} (place : ℕ) (spellA : A → Bytes) (fitsA : A → Bool) (MeantA : A → Type 0) (readA : Reading A) (first : C → A) (spell : C → Bytes)
    (fits : C → Bool) (Meant : C → Type 0) (next : A → Reading C)
    → IsSpelled place spellA fitsA MeantA readA → ((c : C) → Meant c → MeantA (first c))
    → ((a : A) → fitsA a ≡ true → MeantA a → IsSpelled (place + length (spellA a)) spell fits (λ c. (first c ≡ a) × Meant c) (next a))
    → (left : Bytes) → AreBytes left → (x : C) (after : Cursor) → (readA >>= next) (record { place = place; left = left }) ≡ Ok (x, after)
    → Took place (λ c. spellA (first c) ++ spell c) (λ c. fitsA (first c) && fits c) Meant left x after
then_takes place spellA fitsA MeantA readA first spell fits Meant next lawA link law left bytes x after e =
    let p = passed_ok (readA (record { place = place; left = left })) next (x, after) e in
    let a = p.0.0 in
    let t = lawA.takes left bytes a p.0.1 p.1 in
    let e2 : next a (record { place = place + length (spellA a); left = p.0.1.left }) ≡ Ok (x, after) =
    subst (λ (q : ℕ). next a (record { place = q; left = p.0.1.left }) ≡ Ok (x, after)) t.places p.2 in
    let u = (law a t.fit t.meant).takes p.0.1.left (AreBytes-rest (spellA a) p.0.1.left (subst AreBytes t.parts bytes)) x after e2 in
    let same : first x ≡ a = u.meant.0 in
    let fit_first : fitsA (first x) ≡ true = ap fitsA same ∙ t.fit in
    let spelled : spellA (first x) ≡ spellA a = ap spellA same in
    let counted : length (spellA (first x) ++ spell x) ≡ length (spellA a) + length (spell x) = length-append (spellA (first x)) (spell x)
    ∙ ap (λ (s : Bytes). length s + length (spell x)) spelled in
    record {
      meant = u.meant.1;
      fit = and_true (fitsA (first x)) (fits x) fit_first u.fit;
      parts = t.parts ∙ ap (λ (s : Bytes). spellA a ++ s) u.parts ∙ sym (append_assoc (spellA a) (spell x) after.left)
          ∙ ap (λ (s : Bytes). (s ++ spell x) ++ after.left) (sym spelled);
      places = (let here = u.places in omega (arith, counted, here));
    }

then_again : {A C : Type 0} (place : ℕ) (spellA : A → Bytes) (fitsA : A → Bool) (MeantA : A → Type 0) (readA : Reading A) (first : C → A) (spell : C → Bytes)
    (fits : C → Bool) (Meant : C → Type 0) (next : A → Reading C)
    → IsSpelled place spellA fitsA MeantA readA → ((c : C) → Meant c → MeantA (first c))
    → ((a : A) → fitsA a ≡ true → MeantA a → IsSpelled (place + length (spellA a)) spell fits (λ c. (first c ≡ a) × Meant c) (next a))
    → (x : C) (rest : Bytes) → Meant x → (fitsA (first x) && fits x) ≡ true
    → (readA >>= next) (record { place = place; left = (spellA (first x) ++ spell x) ++ rest }) ≡ Ok (
      x,
      record { place = place + length (spellA (first x) ++ spell x); left = rest },
    )
then_again place spellA fitsA MeantA readA first spell fits Meant next lawA link law x rest meant fit =
    let both = both_true (fitsA (first x)) (fits x) fit in
    let one : readA (record { place = place; left = (spellA (first x) ++ spell x) ++ rest }) ≡ Ok (
      first x,
      record { place = place + length (spellA (first x)); left = spell x ++ rest },
    )
    = ap (λ (s : Bytes). readA (record { place = place; left = s })) (append_assoc (spellA (first x)) (spell x) rest)
    ∙ lawA.again (first x) (spell x ++ rest) (link x meant) both.0 in
    let two = (law (first x) both.0 (link x meant)).again x rest (refl, meant) both.1 in
    let counted : (place + length (spellA (first x))) + length (spell x) ≡ place + length (spellA (first x) ++ spell x) =
    omega (arith, length-append (spellA (first x)) (spell x)) in
    ap (λ r. passed r next) one ∙ two ∙ ap (λ (q : ℕ). Ok (x, record { place = q; left = rest })) counted

then_ends : {A C : Type 0} (place : ℕ) (spellA : A → Bytes) (fitsA : A → Bool) (MeantA : A → Type 0) (readA : Reading A) (first : C → A) (spell : C → Bytes)
    (fits : C → Bool) (Meant : C → Type 0) (next : A → Reading C)
    → IsSpelled place spellA fitsA MeantA readA → ((c : C) → Meant c → MeantA (first c))
    → ((a : A) → fitsA a ≡ true → MeantA a → IsSpelled (place + length (spellA a)) spell fits (λ c. (first c ≡ a) × Meant c) (next a))
    → (x : C) (front back : Bytes) → Meant x → (fitsA (first x) && fits x) ≡ true → spellA (first x) ++ spell x ≡ front ++ back → 0 < length back
    → (readA >>= next) (record { place = place; left = front }) ≡ Err (Short (place + length front))
then_ends place spellA fitsA MeantA readA first spell fits Meant next lawA link law x front back meant fit e some =
    let both = both_true (fitsA (first x)) (fits x) fit in
    elim (cut (spellA (first x)) (spell x) front back e) [
      | inl w ↦ ap (λ r. passed r next) (lawA.ends (first x) front w.0 (link x meant) both.0 w.1 w.2)
      | inr w ↦
          let one : readA (record { place = place; left = front }) ≡ Ok (first x, record { place = place + length (spellA (first x)); left = w.0 })
          = ap (λ (s : Bytes). readA (record { place = place; left = s })) w.1 ∙ lawA.again (first x) w.0 (link x meant) both.0 in
          let two = (law (first x) both.0 (link x meant)).ends x w.0 back (refl, meant) both.1 w.2 some in
          let counted : (place + length (spellA (first x))) + length w.0 ≡ place + length front =
          omega (arith, length-append (spellA (first x)) w.0, ap length w.1) in
          ap (λ r. passed r next) one ∙ two ∙ ap (λ (q : ℕ). Err (Short q)) counted
    ]

pub after : {A C : Type 0} (place : ℕ) (spellA : A → Bytes) (fitsA : A → Bool) (MeantA : A → Type 0) (readA : Reading A) (first : C → A) (spell : C → Bytes)
    (fits : C → Bool) (Meant : C → Type 0) (next : A → Reading C)
    → IsSpelled place spellA fitsA MeantA readA → ((c : C) → Meant c → MeantA (first c))
    → ((a : A) → fitsA a ≡ true → MeantA a → IsSpelled (place + length (spellA a)) spell fits (λ c. (first c ≡ a) × Meant c) (next a))
    → IsSpelled place (λ c. spellA (first c) ++ spell c) (λ c. fitsA (first c) && fits c) Meant (readA >>= next)
after place spellA fitsA MeantA readA first spell fits Meant next lawA link law = record {
  takes = then_takes place spellA fitsA MeantA readA first spell fits Meant next lawA link law;
  again = then_again place spellA fitsA MeantA readA first spell fits Meant next lawA link law;
  ends = then_ends place spellA fitsA MeantA readA first spell fits Meant next lawA link law;
}

-- ---- the end of a reading, tests, places

pub given : {C : Type 0} (place : ℕ) (x : C) (Meant : C → Type 0) → Meant x → ((c : C) → Meant c → c ≡ x) → IsSpelled place (λ c. []) (λ c. true) Meant (give x)
given place x Meant here only = record {
  takes = λ left bytes y at e. let p = ok_is (x, record { place = place; left = left }) (y, at) e in
      let same : x ≡ y = ap (λ (v : _ × Cursor). v.0) p in
      let cursor : record { place = place; left = left } ≡ at = ap (λ (v : _ × Cursor). v.1) p in
      record {
        meant = subst Meant same here;
        fit = refl;
        parts = ap (λ (c : Cursor). c.left) cursor;
        places = sym (ap (λ (c : Cursor). c.place) cursor)
            ∙ omega arith;
      };
  again = λ y rest meant fit. let same = only y meant in let zero_more : place + 0 ≡ place = omega arith in rw (same, zero_more) refl;
  ends = λ y front back meant fit e some. absurd (let counted = ap length e in omega (arith, length-append front back));
}

-- the same law in other words
pub recast : {C : Type 0} (place : ℕ) (spell other : C → Bytes) (fits fine : C → Bool) (Meant Wanted : C → Type 0) (read : Reading C)
    → IsSpelled place spell fits Meant read
    → ((c : C) → Meant c → fits c ≡ true → Wanted c × (fine c ≡ true) × (other c ≡ spell c))
    → ((c : C) → Wanted c → fine c ≡ true → Meant c × (fits c ≡ true) × (other c ≡ spell c))
    → IsSpelled place other fine Wanted read
recast place spell other fits fine Meant Wanted read law there back = record {
  takes = λ left are x after e. let t = law.takes left are x after e in let w = there x t.meant t.fit in
      record {
        meant = w.0;
        fit = w.1;
        parts = t.parts ∙ ap (λ (s : Bytes). s ++ after.left) (sym w.2);
        places = t.places
            ∙ ap (λ (s : Bytes). place + length s) (sym w.2);
      };
  again = λ x rest wanted fine. let w = back x wanted fine in
      ap (λ (s : Bytes). read (record { place = place; left = s ++ rest })) w.2 ∙ law.again x rest w.0 w.1
      ∙ ap (λ (s : Bytes). Ok (x, record { place = place + length s; left = rest })) (sym w.2);
  ends = λ x front back_ wanted fine e some. let w = back x wanted fine in law.ends x front back_ w.0 w.1 (sym w.2 ∙ e) some;
}

-- the same, where only the tests are written otherwise
pub retested : {C : Type 0} (place : ℕ) (spell : C → Bytes) (fits fine : C → Bool) (Meant : C → Type 0) (read : Reading C)
    → IsSpelled place spell fits Meant read → ((c : C) → Meant c → fine c ≡ fits c) → IsSpelled place spell fine Meant read
retested place spell fits fine Meant read law same =
    recast place spell spell fits fine Meant Meant read law (λ c m f. (m, same c m ∙ f, refl)) (λ c m f. (m, sym (same c m) ∙ f, refl))

-- the end of a reading, where only a test tells what is meant
pub given_if : {C : Type 0} (place : ℕ) (x : C) (fits : C → Bool) (Meant : C → Type 0) → Meant x → fits x ≡ true → ((c : C) → Meant c → fits c ≡ true → c ≡ x)
    → IsSpelled place (λ c. []) fits Meant (give x)
given_if place x fits Meant here fit only = record {
  takes = λ left bytes y at e. let p = ok_is (x, record { place = place; left = left }) (y, at) e in
      let same : x ≡ y = ap (λ (v : _ × Cursor). v.0) p in
      let cursor : record { place = place; left = left } ≡ at = ap (λ (v : _ × Cursor). v.1) p in
      record {
        meant = subst Meant same here;
        fit = ap fits (sym same) ∙ fit;
        parts = ap (λ (c : Cursor). c.left) cursor;
        places =
            sym (ap (λ (c : Cursor). c.place) cursor) ∙ omega arith;
      };
  again = λ y rest meant fine. let same = only y meant fine in let zero_more : place + 0 ≡ place = omega arith in rw (same, zero_more) refl;
  ends = λ y front back meant fine e some. absurd (let counted = ap length e in omega (arith, length-append front back));
}
