-- Tests are read as they are spelled.
use Rattle.std.proofs.Common.{◌≡◌, ℕ, ◌+◌, ◌<◌, Bool, true, leb, eqb, ◌&&◌, [], ◌++◌, length, refl, sym, ap, ◌∙◌, arith, length-append}
use Rattle.std.specs.Prelude.{ℤ, pos, nat_lt, nat_le}
use Rattle.std.specs.Int.{w128, cast_unsigned}
use Rattle.std.proofs.lemmas.Bool.{le-leb}
use Rattle.vx_format.specs.declared.image.Step.{Step}
use Rattle.vx_format.specs.declared.image.Step.TheVariants as forms
use Rattle.vx_format.specs.Numbers.{Bytes, number, is_number, integer, is_integer, each, every, follow}
use Rattle.vx_format.specs.Reading.{◌>>=◌, give, here, check, a_number, until}
use Rattle.vx_format.specs.declared.image.Roster.{Roster}
use Rattle.vx_format.specs.Layout.{optional, is_optional, class_test, is_class_test, step, step_tag, step_parts, is_step, depth_after, values_left}
use Rattle.vx_format.specs.Layout.{form, is_form, test, is_test}
use Rattle.vx_format.specs.Format.{a_class_test, an_optional, a_compare, joining, steps, a_step, a_form, a_test}
use Rattle.vx_format.proofs.Spelled.{IsSpelled, Any, recast, both_true, and_true}
use Rattle.vx_format.proofs.Numbers.{length_number}
use Rattle.vx_format.proofs.Parts.{below_is, number_is, list_is, count_is, checked, and_true_end, text_end}
use Rattle.vx_format.proofs.Readings.{integer_is, until_is}
use Rattle.vx_format.proofs.Tags.{AreTagged, tagged_are, leaf, fixed_is, optional_is}
use Rattle.vx_format.proofs.Steps.{part, counted, made, tested, from_here, worded}

pub class_test_is : (r : Roster) (names place : ℕ) → IsSpelled place class_test (is_class_test r names) Any (a_class_test r names)
unfolding a_class_test
class_test_is r names place =
    part (λ c. c.object) (below_is place 4 r.objects) (λ object fit.
    part (λ c. c.fields) (list_is optional (λ i. is_optional r.fields) (λ i. an_optional r.fields) (λ p i. optional_is p r.fields)
    (place + length (number 4 object)) names 0) (λ fields fit2.
    made (record { object = object; fields = fields }) (refl, (refl, tt)) (λ c m. rw (← m.0, ← m.1.0) refl)))

-- ---- steps

operator_of : Step → ℕ
operator_of (forms.Compare operator name z) = operator
operator_of x = 0

name_of : Step → ℕ
name_of (forms.Compare operator name z) = name
name_of x = 0

value_of : Step → ℤ
value_of (forms.Compare operator name z) = z
value_of x = pos 0

only_compare : (x : Step) → step_tag x ≡ 0 → x ≡ forms.Compare (operator_of x) (name_of x) (value_of x)
unfolding operator_of name_of value_of
only_compare (forms.Compare operator name z) e = refl
only_compare x e = absurd cc

only_and : (x : Step) → step_tag x ≡ 1 → x ≡ forms.And
only_and forms.And e = refl
only_and x e = absurd cc

only_or : (x : Step) → step_tag x ≡ 2 → x ≡ forms.Or
only_or forms.Or e = refl
only_or x e = absurd cc

only_not : (x : Step) → step_tag x ≡ 3 → x ≡ forms.Not
only_not forms.Not e = refl
only_not x e = absurd cc

most : (x : Step) → (step_tag x < 4) × (step_tag x < 256)
most (forms.Compare operator name z) = (omega arith, omega arith)
most forms.And = (omega arith, omega arith)
most forms.Or = (omega arith, omega arith)
most forms.Not = (omega arith, omega arith)

abbrev compared : Step → Bytes
compared c = number 1 (operator_of c) ++ (number 4 (name_of c) ++ (integer (value_of c) ++ []))

abbrev is_compared : ℕ → Step → Bool
is_compared names c = (is_number 1 (operator_of c) && nat_lt (operator_of c) 5) &&
    ((is_number 4 (name_of c) && nat_lt (name_of c) names) && (is_integer (value_of c) && true))

compare_parts : (names depth : ℕ) (c : Step) → step_tag c ≡ 0 → (step_parts c ≡ compared c) × (is_step names depth c ≡ is_compared names c)
    × (length (step_parts c) ≡ 21)
unfolding operator_of name_of value_of
compare_parts names depth (forms.Compare operator name z) e = (
  refl,
  refl,
  omega (
    arith,
    length_number 1 operator,
    length_number 4 name,
    length_number 16 (cast_unsigned w128 z),
    length-append (number 1 operator) (number 4 name ++ (integer z ++ [])),
    length-append (number 4 name) (integer z ++ []),
    length-append (integer z) [],
  ),
)
compare_parts names depth x e = absurd cc

compare_is : (names depth q : ℕ) → IsSpelled q step_parts (is_step names depth) (λ c. (step_tag c ≡ 0) × Unit {0}) (a_compare names)
unfolding operator_of name_of value_of
compare_is names depth q =
    recast q compared step_parts (is_compared names) (is_step names depth) (λ c. (step_tag c ≡ 0) × Unit {0}) (λ c. (step_tag c ≡ 0) × Unit {0})
    (a_compare names)
    (part operator_of (below_is q 1 5) (λ operator fit.
    part name_of (below_is _ 4 names) (λ name fit2.
    part value_of (integer_is _) (λ z fit3.
    made (forms.Compare operator name z) (refl, (refl, (refl, (refl, tt)))) (λ c m. only_compare c m.1.1.1.0 ∙ rw (m.0, m.1.0, m.1.1.0) refl)))))
    (λ c m f. let p = compare_parts names depth c m.0 in (m, p.1 ∙ f, p.0))
    (λ c m f. let p = compare_parts names depth c m.0 in (m, sym p.1 ∙ f, p.0))

-- a step that joins truth values
join_is : (names depth p q end t least : ℕ) (x : Step) → p < end → step_tag x ≡ t → step_parts x ≡ [] → is_step names depth x ≡ nat_le least depth
    → ((c : Step) → step_tag c ≡ t → c ≡ x)
    → IsSpelled q step_parts (λ c. is_step names depth c && leb (p + (1 + length (step_parts c))) end) (λ c. (step_tag c ≡ t) × Unit {0})
    (joining least depth p x)
join_is names depth p q end t least x before is empty fit only =
    recast q step_parts step_parts (λ c. nat_le least depth && true) (λ c. is_step names depth c && leb (p + (1 + length (step_parts c))) end) (λ c.
    (step_tag c ≡ t) × Unit {0}) (λ c. (step_tag c ≡ t) × Unit {0}) (joining least depth p x)
    (checked q step_parts (λ c. nat_le least depth) (λ c. true) (λ c. (step_tag c ≡ t) × Unit {0}) (nat_le least depth) p (λ ok. give x) (λ c m. refl)
    (λ ok. leaf q step_tag step_parts (λ c. true) t x is empty refl only))
    (λ c m f. let same = only c m.0 in let none : length (step_parts c) ≡ 0 = ap (λ x. length (step_parts x)) same ∙ ap length empty in (
      m,
      and_true (is_step names depth c) _ (ap (is_step names depth) same ∙ fit ∙ sym (and_true_end (nat_le least depth)) ∙ f)
          (le-leb _ _ (omega arith)),
      refl,
    ))
    (λ c m f. let same = only c m.0 in let both = both_true (is_step names depth c) (leb (p + (1 + length (step_parts c))) end) f in
    (m, and_true_end (nat_le least depth) ∙ sym fit ∙ ap (is_step names depth) (sym same) ∙ both.0, refl))

pub steps_are : (names depth end p : ℕ) → p < end → (q : ℕ)
    → AreTagged q step_tag step_parts (λ c. is_step names depth c && leb (p + (1 + length (step_parts c))) end) 0 (steps names end depth p)
steps_are names depth end p before q = (
  fixed_is q p end 22 step_tag step_parts (is_step names depth) 0 (a_compare names) (compare_is names depth q) (λ c m f. let w =
      compare_parts names depth c m in omega (arith, w.2)),
  (
    join_is names depth p q end 1 2 forms.And before refl refl refl only_and,
    (
      join_is names depth p q end 2 2 forms.Or before refl refl refl only_or,
      (
        join_is names depth p q end 3 1 forms.Not before refl refl refl only_not,
        tt,
      ),
    ),
  ),
)

pub step_is : (names depth end p : ℕ) → p < end → IsSpelled p step (λ x. is_step names depth x && leb (p + length (step x)) end) Any (a_step names end depth)
unfolding a_step
step_is names depth end p before =
    worded (λ c. is_step names depth c && leb (p + (1 + length (step_parts c))) end) (λ x. is_step names depth x && leb (p + length (step x)) end)
    (λ c m. let len : length (step c) ≡ 1 + length (step_parts c) =
    omega (arith, length-append (number 1 (step_tag c)) (step_parts c), length_number 1 (step_tag c)) in
    ap (λ n. is_step names depth c && leb (p + n) end) len)
    (tagged_are p step_tag step_parts (λ c. is_step names depth c && leb (p + (1 + length (step_parts c))) end) (steps names end depth)
    (steps_are names depth end p before) most)

pub step_some : (x : Step) → 0 < length (step x)
step_some x = omega (arith, length-append (number 1 (step_tag x)) (step_parts x), length_number 1 (step_tag x))

pub form_is : (names place : ℕ) → IsSpelled place form (is_form names) Any (a_form names)
unfolding a_form
form_is names place =
    recast place (λ xs. number 4 (length (each step xs)) ++ (each step xs ++ [])) form
    (λ xs. is_number 4 (length (each step xs)) && (follow (is_step names) depth_after 0 xs && (eqb (values_left 0 xs) 1 && true))) (is_form names) Any Any
    (a_form names)
    (from_here (λ place. a_number 4 >>= λ count. here >>= λ begin. until count (begin + count) (a_step names (begin + count)) depth_after 0 >>= λ form.
    check (eqb (values_left 0 form) 1) place >>= λ ok. give form)
    (part (λ xs. length (each step xs)) (number_is place 4) (λ count fit.
    from_here (λ begin. until count (begin + count) (a_step names (begin + count)) depth_after 0 >>= λ form.
    check (eqb (values_left 0 form) 1) place >>= λ ok. give form)
    (counted (λ xs. xs) (until_is step (is_step names) depth_after (place + length (number 4 count)) count 0
    (a_step names (place + length (number 4 count) + count)) (λ p d before. step_is names d _ p before) step_some) (λ c m. m.0) (λ xs fit2 len.
    tested (λ xs. eqb (values_left 0 xs) 1) (eqb (values_left 0 xs) 1) place (λ ok. give xs) (λ c m. ap (λ xs. eqb (values_left 0 xs) 1) m.0)
    (made xs (refl, (len, tt)) (λ c m. m.0)))))))
    (λ xs m f. (
      tt,
      ap (λ b. is_number 4 (length (each step xs)) && (follow (is_step names) depth_after 0 xs && b))
          (sym (and_true_end (eqb (values_left 0 xs) 1))) ∙ f,
      ap (λ (t : Bytes). number 4 (length (each step xs)) ++ t) (sym (text_end (each step xs))),
    ))
    (λ xs m f. (
      tt,
      ap (λ b. is_number 4 (length (each step xs)) && (follow (is_step names) depth_after 0 xs && b))
          (and_true_end (eqb (values_left 0 xs) 1)) ∙ f,
      ap (λ (t : Bytes). number 4 (length (each step xs)) ++ t) (sym (text_end (each step xs))),
    ))

pub test_is : (r : Roster) (place : ℕ) → IsSpelled place test (is_test r) Any (a_test r)
unfolding a_test
test_is r place =
    part (λ t. length t.classes) (number_is place 4) (λ count fit.
    part (λ t. t.names) (number_is _ 4) (λ names fit2.
    worded (λ t. every (λ i. is_class_test r names) 0 t.classes && (is_form names t.steps && true)) (λ t. every (λ i. is_class_test r t.names) 0 t.classes &&
    (is_form t.names t.steps && true))
    (λ t m. ap (λ names. every (λ i. is_class_test r names) 0 t.classes && (is_form names t.steps && true)) m.0) (
    counted (λ t. t.classes) (count_is class_test (λ i. is_class_test r names) (λ i. a_class_test r names) (λ p i. class_test_is r names p) _ count 0) (λ c m.
    m.1.0) (λ classes fit3 len.
    part (λ t. t.steps) (form_is names _) (λ steps fit4.
    made (record { names = names; classes = classes; steps = steps }) (refl, (refl, (refl, (len, tt)))) (λ c m. rw (← m.0, ← m.1.0, ← m.1.1.0) refl))))))
