-- The slots of a new object, as words.
use Rattle.std.specs.Prelude.{ℕ, Bool, List, [], ◌∷◌, is_some}
use Rattle.std.specs.List.{list_all}
use Rattle.vx_model.specs.declared.value.Value.{Value}
use Rattle.vx_machine.specs.declared.word.Word.{Word}
use Rattle.vx_machine.specs.Meaning.{Texts, value_of}
use Rattle.vx_machine.specs.Slots.{put_word, word_at}

abbrev pub slot_value : Texts → ℕ × Word → ℕ × Value
slot_value texts slot = (slot.0, value_of texts slot.1)

-- the fields get the words, one after another
abbrev pub filled_words : List ℕ → List Word → List (ℕ × Word) → List (ℕ × Word)
filled_words [] words slots = slots
filled_words (field ∷ fields) [] slots = slots
filled_words (field ∷ fields) (word ∷ words) slots = filled_words fields words (put_word field word slots)

-- each of the fields has a slot
abbrev pub has_slots : List ℕ → List (ℕ × Word) → Bool
has_slots fields slots = list_all (λ field. is_some (word_at field slots)) fields
