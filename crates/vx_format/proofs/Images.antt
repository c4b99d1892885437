-- Images are read as they are spelled.
use Rattle.std.proofs.Common.{◌≡◌, ℕ, ◌<◌, Bool, true, false, cond, eqb, ◌&&◌, [], ◌∷◌, ◌++◌, length, Option, Result, Ok, Err, refl, sym, ap, subst}
use Rattle.std.proofs.Common.{◌∙◌, inl, inr, arith}
use Rattle.std.specs.Prelude.{codes}
use Rattle.std.specs.Str.{bytes_eq}
use Rattle.std.proofs.lemmas.Bool.{eqb-true, eqb-false, ne_eqb, cases_Bool, cond-true, cond-false}
use Rattle.std.proofs.lemmas.List.{append-nil, nil_from_length}
use Rattle.vx_format.specs.declared.fault.FormatFault.{FormatFault}
use Rattle.vx_format.specs.declared.fault.FormatFault.TheVariants.{Short, BadMagic, Trailing}
use Rattle.vx_format.specs.declared.image.Version.{Version}
use Rattle.vx_format.specs.declared.image.Version.TheVariants.{One, Two}
use Rattle.vx_format.specs.declared.image.Image.{Image}
use Rattle.vx_format.specs.Numbers.{Bytes, is_number, every}
use Rattle.vx_format.specs.Reading.{Cursor, Reading, give, bytes}
use Rattle.vx_format.specs.declared.image.Roster.{Roster}
use Rattle.vx_format.specs.Layout.{roster_of, is_optional, own, is_own, shape, is_shape, test, is_test, table, is_table, code, is_code, version_byte}
use Rattle.vx_format.specs.Layout.{parts, is_image, image_bytes}
use Rattle.vx_format.specs.Format.{an_own, a_table, the_parts, a_magic, versioned, an_image, ended, loaded}
use Rattle.vx_format.proofs.Spelled.{AreBytes, IsSpelled, Any, recast, retested, given}
use Rattle.std.proofs.lemmas.Slice.Eq.{bytes_eq-Decides}
use Rattle.vx_format.proofs.Parts.{below_is, number_is, bytes_are, count_is, and_true_end}
use Rattle.vx_format.proofs.Tags.{optional_is}
use Rattle.vx_format.proofs.Shapes.{shape_is}
use Rattle.vx_format.proofs.Tests.{test_is}
use Rattle.vx_format.proofs.Tables.{table_is}
use Rattle.vx_format.proofs.Codes.{code_is}
use Rattle.vx_format.proofs.Steps.{part, counted, made, worded}

own_is : (r : Roster) (place : ℕ) → IsSpelled place own (is_own r) Any (an_own r)
unfolding an_own
own_is r place =
    part (λ x. x.closure) (below_is place 4 r.objects) (λ a fit.
    part (λ x. x.false_) (below_is _ 4 r.objects) (λ b fit2.
    part (λ x. x.int) (below_is _ 4 r.objects) (λ c fit3.
    part (λ x. x.nil) (below_is _ 4 r.objects) (λ d fit4.
    part (λ x. x.string) (below_is _ 4 r.objects) (λ e fit5.
    part (λ x. x.true_) (below_is _ 4 r.objects) (λ g fit6.
    made (record { closure = a; false_ = b; int = c; nil = d; string = e; true_ = g }) (refl, (refl, (refl, (refl, (refl, (refl, tt))))))
    (λ x m. rw (← m.0, ← m.1.0, ← m.1.1.0, ← m.1.1.1.0, ← m.1.1.1.1.0, ← m.1.1.1.1.1.0) refl)))))))

-- what fits once the numbers are read
abbrev later : Version → Roster → Image → Bool
later v r x = is_own r x.own && (is_optional r.tables x.main &&
    (every (λ i. is_shape r) 0 x.shapes && (every (λ i. is_test r) 0 x.tests &&
    (every (is_table v r x.main) 0 x.tables && (every (λ i. is_code r) 0 x.codes && true)))))

main_later : Version → Roster → Option ℕ → Image → Bool
main_later v r main x = every (λ i. is_shape r) 0 x.shapes &&
    (every (λ i. is_test r) 0 x.tests && (every (is_table v r main) 0 x.tables && (every (λ i. is_code r) 0 x.codes && true)))

parts_are : (v : Version) (place : ℕ) → IsSpelled place (parts v) (is_image v) Any (the_parts v)
unfolding the_parts main_later
parts_are v place =
    part (λ x. x.fields) (number_is place 4) (λ fields fit.
    part (λ x. length x.shapes) (number_is _ 4) (λ objects fit2.
    part (λ x. length x.tests) (number_is _ 4) (λ tests fit3.
    part (λ x. length x.tables) (number_is _ 4) (λ tables fit4.
    part (λ x. length x.codes) (number_is _ 4) (λ codes_ fit5.
    let r : Roster = record { fields = fields; objects = objects; tests = tests; tables = tables; codes = codes_ } in
    worded (later v r) (λ x. later v (roster_of x) x) (λ x m. let same : roster_of x ≡ r = rw (m.0, m.1.0, m.1.1.0, m.1.1.1.0, m.1.1.1.1.0) refl in
    ap (λ r. later v r x) same) (
    part (λ x. x.own) (own_is r _) (λ own fit6.
    part (λ x. x.main) (optional_is _ tables) (λ main fit7.
    worded (main_later v r main) (λ x. main_later v r x.main x) (λ x m. ap (λ main. main_later v r main x) m.0) (
    counted (λ x. x.shapes) (count_is shape (λ i. is_shape r) _ (λ p i. shape_is r p) _ objects 0) (λ c m. m.1.1.1.1.1.0) (λ shapes fit8 len8.
    counted (λ x. x.tests) (count_is test (λ i. is_test r) _ (λ p i. test_is r p) _ tests 0) (λ c m. m.1.1.1.1.1.0) (λ all_tests fit9 len9.
    counted (λ x. x.tables) (count_is (table v) (is_table v r main) (a_table v r main) (λ p i. table_is v r main p i) _ tables 0) (λ c m. m.1.1.1.1.1.0)
    (λ all_tables fit10 len10.
    counted (λ x. x.codes) (count_is code (λ i. is_code r) _ (λ p i. code_is r p) _ codes_ 0) (λ c m. m.1.1.1.1.1.0) (λ all_codes fit11 len11.
    made (record { fields = fields; own = own; main = main; shapes = shapes; tests = all_tests; tables = all_tables; codes = all_codes })
    (refl, (refl, (refl, (refl, (refl, (refl, (len11, (len10, (len9, (len8, (refl, tt)))))))))))
    (λ x m. rw (← m.0, ← m.1.0, ← m.1.1.0, ← m.1.1.1.0, ← m.1.1.1.1.0, ← m.1.1.1.1.1.0, ← m.1.1.1.1.1.1.1.1.1.1.0) refl))))))))))))))

-- ---- the front of an image

abbrev magic_read : Bytes → Reading (Unit {0})
magic_read front = cond (bytes_eq front (codes "VXIC")) (give tt) (λ at. Err BadMagic)

magic_next : (q : ℕ) (front : Bytes) → IsSpelled q (λ u. []) (λ u. true) (λ u. (codes "VXIC" ≡ front) × Unit {0}) (magic_read front)
magic_next q front = elim (cases_Bool (bytes_eq front (codes "VXIC"))) [
  | inl is ↦ subst (λ (read : Reading (Unit {0})). IsSpelled q (λ u. []) (λ u. true) (λ u. (codes "VXIC" ≡ front) × Unit {0}) read)
      (sym (cond-true _ _ _ is))
      (given q tt (λ u. (codes "VXIC" ≡ front) × Unit {0}) (sym ((bytes_eq-Decides front (codes "VXIC")).0 is), tt) (λ u m. refl))
  | inr no_ ↦ subst (λ (read : Reading (Unit {0})). IsSpelled q (λ u. []) (λ u. true) (λ u. (codes "VXIC" ≡ front) × Unit {0}) read)
      (sym (cond-false _ _ _ no_))
      (record {
        takes = λ left are x after e. absurd cc;
        again = λ x rest meant fit. absurd (let is = (bytes_eq-Decides front (codes "VXIC")).1 (sym meant.0) in cc);
        ends = λ x front_ back meant fit e some. absurd (let is = (bytes_eq-Decides front (codes "VXIC")).1 (sym meant.0) in cc);
      })
]

magic_is : (place : ℕ) → IsSpelled place (λ u. codes "VXIC") (λ u. true) Any a_magic
unfolding a_magic
magic_is place = part (λ u. codes "VXIC") (bytes_are place 4) (λ front fit. magic_next _ front)

versions_are : (place b : ℕ) → IsSpelled place (λ v. []) (λ v. true) (λ v. version_byte v ≡ b) (versioned b)
versions_are place b = elim (cases_Bool (eqb b 1)) [
  | inl is ↦ subst (λ (read : Reading Version). IsSpelled place (λ v. []) (λ v. true) (λ v. version_byte v ≡ b) read) (sym (cond-true _ _ _ is))
      (given place One (λ v. version_byte v ≡ b) (sym (eqb-true _ _ is)) (λ v m. only_one v (m ∙ eqb-true _ _ is)))
  | inr not_one ↦ subst (λ (read : Reading Version). IsSpelled place (λ v. []) (λ v. true) (λ v. version_byte v ≡ b) read)
      (sym (cond-false _ _ _ not_one)) (elim (cases_Bool (eqb b 2)) [
        | inl is ↦ subst (λ (read : Reading Version). IsSpelled place (λ v. []) (λ v. true) (λ v. version_byte v ≡ b) read) (sym (cond-true _ _ _ is))
            (given place Two (λ v. version_byte v ≡ b) (sym (eqb-true _ _ is)) (λ v m. only_two v (m ∙ eqb-true _ _ is)))
        | inr not_two ↦ subst (λ (read : Reading Version). IsSpelled place (λ v. []) (λ v. true) (λ v. version_byte v ≡ b) read)
            (sym (cond-false _ _ _ not_two))
            (record {
              takes = λ left are x after e. absurd cc;
              again = λ x rest meant fit. absurd (neither x meant (eqb-false _ _ not_one) (eqb-false _ _ not_two));
              ends = λ x front back meant fit e some. absurd (neither x meant (eqb-false _ _ not_one) (eqb-false _ _ not_two));
            })
      ])
]
  where
    only_one : (v : Version) → version_byte v ≡ 1 → v ≡ One
    only_one One e = refl
    only_one Two e = absurd cc

    only_two : (v : Version) → version_byte v ≡ 2 → v ≡ Two
    only_two One e = absurd cc
    only_two Two e = refl

    neither : (v : Version) → version_byte v ≡ b → (b ≡ 1 → ⊥) → (b ≡ 2 → ⊥) → ⊥
    neither One e one two = one (sym e)
    neither Two e one two = two (sym e)

fits_byte : (v : Version) → is_number 1 (version_byte v) ≡ true
fits_byte One = refl
fits_byte Two = refl

pub image_is : (place : ℕ) → IsSpelled place (λ x. image_bytes x.0 x.1) (λ x. is_image x.0 x.1) Any an_image
unfolding an_image
image_is place =
    retested place (λ x. image_bytes x.0 x.1) (λ x. true && (is_number 1 (version_byte x.0) && (true && (is_image x.0 x.1 && true)))) (λ x.
    is_image x.0 x.1) Any an_image
    (part (λ x. tt) (magic_is place) (λ u fit.
    part (λ x. version_byte x.0) (number_is _ 1) (λ byte fit2.
    counted (λ x. x.0) (versions_are _ byte) (λ x m. m.0) (λ v fit3 is.
    recast _ (λ x. parts v x.1 ++ []) (λ x. parts x.0 x.1 ++ []) (λ x. is_image v x.1 && true) (λ x. is_image x.0 x.1 && true) (λ x. (x.0 ≡ v)
    × ((version_byte x.0 ≡ byte) × ((let t : Unit {0} = tt in t ≡ u) × Unit {0}))) (λ x. (x.0 ≡ v)
    × ((version_byte x.0 ≡ byte) × ((let t : Unit {0} = tt in t ≡ u) × Unit {0}))) _
    (part (λ x. x.1) (parts_are v _) (λ x fit4.
    made (v, x) (refl, (refl, (is, (refl, tt)))) (λ c m. rw (← m.0, ← m.1.0) refl)))
    (λ x m f. (m, ap (λ v. is_image v x.1 && true) m.0 ∙ f, ap (λ v. parts v x.1 ++ []) m.0))
    (λ x m f. (m, ap (λ v. is_image v x.1 && true) (sym m.0) ∙ f, ap (λ v. parts v x.1 ++ []) m.0))))))
    (λ x m. rw (fits_byte x.0, and_true_end (is_image x.0 x.1)) refl)

-- ---- whole images

ended_ok : (r : Result ((Version × Image) × Cursor) FormatFault) (y : Version × Image) → ended r ≡ Ok y → (w : (Version × Image) × Cursor) × (r ≡ Ok w)
    × (w.0 ≡ y) × (length w.1.left ≡ 0)
ended_ok (Ok w) y e = elim (cases_Bool (eqb (length w.1.left) 0)) [
  | inl is ↦ let e2 = rw is at e in (w, refl, same w.0 y e2, eqb-true _ _ is)
  | inr no_ ↦ absurd (let e2 = rw no_ at e in cc)
]
  where
    same : (a b : Version × Image) → (let r : Result (Version × Image) FormatFault = Ok a in r ≡ Ok b) → a ≡ b
    same a b e = cc
ended_ok (Err fault) y e = absurd cc

-- what is loaded is an image, and these are its bytes
pub loaded_is_laid : (bytes : Bytes) → AreBytes bytes → (v : Version) (x : Image) → loaded bytes ≡ Ok (v, x) → (is_image v x ≡ true) × (bytes ≡ image_bytes v x)
unfolding loaded
loaded_is_laid bytes are v x e =
    let w = ended_ok (an_image (record { place = 0; left = bytes })) (v, x) e in
    let t = (image_is 0).takes bytes are w.0.0 w.0.1 w.1 in
    let nothing : w.0.1.left ≡ [] = nil_from_length w.0.1.left w.3 in
    let all_of_it : bytes ≡ image_bytes w.0.0.0 w.0.0.1 = t.parts ∙ ap (λ (s : Bytes). image_bytes w.0.0.0 w.0.0.1 ++ s) nothing
    ∙ append-nil (image_bytes w.0.0.0 w.0.0.1) in
    subst (λ (y : Version × Image). (is_image y.0 y.1 ≡ true) × (bytes ≡ image_bytes y.0 y.1)) w.2 (t.fit, all_of_it)

pub laid_is_loaded : (v : Version) (x : Image) → is_image v x ≡ true → loaded (image_bytes v x) ≡ Ok (v, x)
unfolding loaded
laid_is_loaded v x fit =
    ap (λ (s : Bytes). ended (an_image (record { place = 0; left = s }))) (sym (append-nil (image_bytes v x))) ∙ ap ended ((image_is 0).again (v, x) [] tt fit)

-- a front of an image is too short
pub fronts_are_short : (v : Version) (x : Image) → is_image v x ≡ true → (front back : Bytes) → image_bytes v x ≡ front ++ back → 0 < length back
    → loaded front ≡ Err (Short (length front))
unfolding loaded
fronts_are_short v x fit front back e some = ap ended ((image_is 0).ends (v, x) front back tt fit e some) ∙ ap (λ (n : ℕ). Err (Short n)) (omega arith)

-- bytes behind an image
pub more_is_trailing : (v : Version) (x : Image) → is_image v x ≡ true → (b : ℕ) (rest : Bytes)
    → loaded (image_bytes v x ++ b ∷ rest) ≡ Err (Trailing (length (image_bytes v x)))
unfolding loaded
more_is_trailing v x fit b rest =
    let more : eqb (length (b ∷ rest)) 0 ≡ false = ne_eqb _ _ (λ h. omega arith) in
    ap ended ((image_is 0).again (v, x) (b ∷ rest) tt fit) ∙ rw more (ap (λ (n : ℕ). Err (Trailing n)) (omega arith))

ok_same : (a b : Version × Image) → (let r : Result (Version × Image) FormatFault = Ok a in r ≡ Ok b) → a ≡ b
ok_same a b e = cc

-- two images with the same bytes are the same
pub one_image : (v w : Version) (x y : Image) → is_image v x ≡ true → is_image w y ≡ true → image_bytes v x ≡ image_bytes w y → (v ≡ w) × (x ≡ y)
one_image v w x y fit fits_too e =
    let same : (v, x) ≡ (w, y) = ok_same (v, x) (w, y) (sym (laid_is_loaded v x fit) ∙ ap loaded e ∙ laid_is_loaded w y fits_too) in
    (ap (λ (p : Version × Image). p.0) same, ap (λ (p : Version × Image). p.1) same)
