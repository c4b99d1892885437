-- Shapes are read as they are spelled.
use Rattle.std.proofs.Common.{◌≡◌, ℕ, ◌+◌, ◌<◌, length, refl, arith}
use Rattle.std.specs.Prelude.{ℤ}
use Rattle.vx_format.specs.declared.image.Initial.{Initial}
use Rattle.vx_format.specs.declared.image.Initial.TheVariants as values
use Rattle.vx_format.specs.Numbers.{Bytes, number, is_number, integer, is_integer}
use Rattle.vx_format.specs.declared.image.Roster.{Roster}
use Rattle.vx_format.specs.Layout.{long, initial, initial_tag, initial_parts, is_initial, slot, is_slot, shape, is_shape}
use Rattle.vx_format.specs.Format.{a_long, an_integer, initials, an_initial, a_slot, a_shape}
use Rattle.vx_format.proofs.Spelled.{IsSpelled, Any}
use Rattle.vx_format.proofs.Parts.{below_is}
use Rattle.vx_format.proofs.Readings.{integer_is, long_is, lists_are}
use Rattle.vx_format.proofs.Tags.{AreTagged, tagged_are, leaf, branch}
use Rattle.vx_format.proofs.Steps.{part, made}

only_nil : (x : Initial) → initial_tag x ≡ 0 → x ≡ values.Nil
only_nil values.Nil e = refl
only_nil x e = absurd cc

only_false : (x : Initial) → initial_tag x ≡ 1 → x ≡ values.False
only_false values.False e = refl
only_false x e = absurd cc

only_true : (x : Initial) → initial_tag x ≡ 2 → x ≡ values.True
only_true values.True e = refl
only_true x e = absurd cc

only_int : (x : Initial) → initial_tag x ≡ 3 → (z : ℤ) × (x ≡ values.Int z)
only_int (values.Int z) e = (z, refl)
only_int x e = absurd cc

only_text : (x : Initial) → initial_tag x ≡ 4 → (bytes : Bytes) × (x ≡ values.Text bytes)
only_text (values.Text bytes) e = (bytes, refl)
only_text x e = absurd cc

most : (x : Initial) → (initial_tag x < 5) × (initial_tag x < 256)
most values.Nil = (omega arith, omega arith)
most values.False = (omega arith, omega arith)
most values.True = (omega arith, omega arith)
most (values.Int z) = (omega arith, omega arith)
most (values.Text bytes) = (omega arith, omega arith)

initials_are : (q : ℕ) → AreTagged q initial_tag initial_parts is_initial 0 initials
initials_are q = (
  leaf q initial_tag initial_parts is_initial 0 values.Nil refl refl refl only_nil,
  (
    leaf q initial_tag initial_parts is_initial 1 values.False refl refl refl only_false,
    (
      leaf q initial_tag initial_parts is_initial 2 values.True refl refl refl only_true,
      (
        branch q initial_tag initial_parts is_initial 3 integer is_integer an_integer values.Int (integer_is q) (λ z. (refl, refl, refl)) only_int,
        (
          branch q initial_tag initial_parts is_initial 4 (long 4) (λ s. is_number 4 (length s)) (a_long 4) values.Text (long_is q 4) (λ s.
              (refl, refl, refl)) only_text,
          tt,
        ),
      ),
    ),
  ),
)

pub initial_is : (place : ℕ) → IsSpelled place initial is_initial Any an_initial
unfolding an_initial
initial_is place = tagged_are place initial_tag initial_parts is_initial (λ p. initials) initials_are most

pub slot_is : (r : Roster) (place : ℕ) → IsSpelled place slot (is_slot r) Any (a_slot r)
unfolding a_slot
slot_is r place =
    part (λ s. s.field) (below_is place 4 r.fields) (λ field fit.
    part (λ s. s.start) (initial_is (place + length (number 4 field))) (λ start fit2.
    made (record { field = field; start = start }) (refl, (refl, tt)) (λ c m. rw (← m.0, ← m.1.0) refl)))

pub shape_is : (r : Roster) (place : ℕ) → IsSpelled place shape (is_shape r) Any (a_shape r)
unfolding a_shape
shape_is r place = lists_are slot (is_slot r) (a_slot r) (slot_is r) place 4
