-- Slots of words.
use Rattle.std.specs.Prelude.{◌≡◌, ℕ, suc, Bool, true, false, ◌==◌, if◌then◌else◌, List, [], ◌∷◌, Option, Some, None, slice_get, slice_set}
use Rattle.vx_machine.specs.declared.word.Word.{Word}
use Rattle.vx_machine.specs.declared.word.Object.{Object}

-- the first slot of a field
abbrev pub word_at : ℕ → List (ℕ × Word) → Option Word
word_at field [] = None
word_at field (slot ∷ rest) = if slot.0 == field then Some slot.1 else word_at field rest

abbrev pub held_at : List Object → ℕ → ℕ → Option Word
held_at objects number field = elim (slice_get objects number) [ Some object ↦ word_at field object.slots | None ↦ None ]

-- its place, where so many slots stand before
abbrev pub place_from : ℕ → ℕ → List (ℕ × Word) → Option ℕ
place_from field n [] = None
place_from field n (slot ∷ rest) = if slot.0 == field then Some n else place_from field (suc n) rest

abbrev pub put_at : ℕ → ℕ → Word → Object → Object
put_at place field word object = record object { slots = slice_set object.slots place (field, word) }

-- the first slot of the field gets the word
abbrev pub put_word : ℕ → Word → List (ℕ × Word) → List (ℕ × Word)
put_word field word [] = []
put_word field word (slot ∷ rest) = if slot.0 == field then (slot.0, word) ∷ rest else slot ∷ put_word field word rest

-- a word was put where there is such an object and slot, or nothing changed
abbrev pub Changes : Bool → ℕ → ℕ → Word → List Object → List Object → Type 0
Changes true number field word old new = (object : Object) × (held : Word) × (slice_get old number ≡ Some object) × (word_at field object.slots ≡ Some held)
    × (new ≡ slice_set old number (record object { slots = put_word field word object.slots }))
Changes false number field word old new = (held_at old number field ≡ None) × (new ≡ old)

-- the class of an object that is there
abbrev pub class_at : List Object → ℕ → Option ℕ
class_at objects number = elim (slice_get objects number) [ Some object ↦ Some object.class | None ↦ None ]
