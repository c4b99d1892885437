-- What the instruction that makes an object comes to.
use Rattle.std.proofs.Common.{◌≡◌, ◌∙◌, ℕ, ◌≤◌, ◌<◌, true, false, List, [], ◌∷◌, ◌++◌, length, map, take, drop, reverse, Option, Some, None, refl, sym, ap}
use Rattle.std.proofs.Common.{◌+◌, append_assoc, zero, suc, subst, inl, inr, eqb, set, get_or, pos, arith}
use Rattle.std.specs.Option.{option_map}
use Rattle.std.specs.Prelude.{is_some, slice_get}
use Rattle.std.proofs.lemmas.Bool.{cases_Bool}
use Rattle.std.proofs.lemmas.List.{drop_more, map-append, length-map}
use Rattle.vx_model.specs.declared.value.Value.{Value}
use Rattle.vx_format.specs.declared.image.Slot.{Slot}
use Rattle.vx_format.specs.declared.image.Image.{Image}
use Rattle.vx_format.specs.declared.image.Instr.TheVariants as n
use Rattle.vx_compilation.specs.Activations.{Making, NoClass}
use Rattle.vx_compilation.specs.Machine.{Finds, Frame, Lacks, On, Stepped, makes}
use Rattle.vx_places.specs.Dispatch.{Placed}
use Rattle.vx_places.specs.ImageMachine.{by_place, filled, fresh, have_slots, made, made_of, start_value}
use Rattle.vx_lists.proofs.Rests.{left_at}
use Rattle.vx_format.specs.declared.image.Own.{Own}
use Rattle.vx_machine.specs.declared.word.Word.{Word}
use Rattle.vx_machine.specs.declared.word.Word.TheVariants as w
use Rattle.vx_machine.specs.Cuts.{forgotten, pushed}
use Rattle.vx_machine.specs.Making.{filled_words, has_slots, slot_value}
use Rattle.vx_machine.specs.Meaning.{Kept, Texts, Whole, acted, arguments, frames, machine_of, placed_of, state_of, things_of, value_of}
use Rattle.vx_machine.specs.Slots.{place_from, put_word, word_at}
use Rattle.vx_machine.proofs.Calling.{takes, takes_lacks}
use Rattle.vx_machine.proofs.Fielding.{no_place, placing, put_mapped, slot_mapped}
use Rattle.vx_machine.proofs.Sound.{puts}
use Rattle.vx_machine.specs.Sound.{AreSlotsSound, AreWordsSound, IsWordSound}

-- ---- slots of words and slots of values

some_mapped : {A B : Type 0} (f : A → B) (found : Option A) → is_some (option_map f found) ≡ is_some found
some_mapped f None = refl
some_mapped f (Some a) = refl

have_mapped : (texts : Texts) (fields : List ℕ) (slots : List (ℕ × Word)) → have_slots fields (map (slot_value texts) slots) ≡ has_slots fields slots
have_mapped texts [] slots = refl
have_mapped texts (field ∷ fields) slots =
    rw (slot_mapped texts field slots, some_mapped (value_of texts) (word_at field slots), have_mapped texts fields slots) refl

filled_mapped : (texts : Texts) (fields : List ℕ) (words : List Word) (slots : List (ℕ × Word))
    → filled fields (map (value_of texts) words) (map (slot_value texts) slots) ≡ map (slot_value texts) (filled_words fields words slots)
filled_mapped texts [] words slots = refl
filled_mapped texts (field ∷ fields) [] slots = refl
filled_mapped texts (field ∷ fields) (word ∷ words) slots =
    ap (filled fields (map (value_of texts) words)) (put_mapped texts field word slots) ∙ filled_mapped texts fields words (put_word field word slots)

-- ---- slots as they are at first

-- a slot more is the next one that has its start
pub opens_one : (own : Own) (texts : Texts) (slots : List (ℕ × Word)) (i : ℕ) (shape : List Slot) (slot : Slot) (word : Word) → i < length shape
    → slot ≡ get_or shape i slot → value_of texts word ≡ start_value own slot.start
    → map (slot_value texts) (slots ++ (slot.field, word) ∷ []) ++ fresh own (drop (i + 1) shape) ≡ map (slot_value texts) slots ++ fresh own (drop i shape)
opens_one own texts slots i shape slot word lt is same =
    ap (λ (values : List (ℕ × Value)). values ++ fresh own (drop (i + 1) shape)) (map-append (slot_value texts) slots ((slot.field, word) ∷ []))
    ∙ append_assoc (map (slot_value texts) slots) ((slot.field, value_of texts word) ∷ []) (fresh own (drop (i + 1) shape))
    ∙ ap (λ (value : Value). map (slot_value texts) slots ++ (slot.field, value) ∷ fresh own (drop (i + 1) shape)) same
    ∙ ap (λ (rest : List Slot). map (slot_value texts) slots ++ fresh own rest) (sym (left_at shape i slot lt is))

-- ---- slots are filled one after another

-- which fields have slots doesn't change when a slot is written
still_there : (field other : ℕ) (word : Word) (slots : List (ℕ × Word)) → is_some (word_at other (put_word field word slots)) ≡ is_some (word_at other slots)
still_there field other word [] = refl
still_there field other word (slot ∷ slots) = elim (cases_Bool (eqb slot.0 field)) [
  | inl is ↦ rw is (here slot.1)
  | inr is ↦ rw is (elim (cases_Bool (eqb slot.0 other)) [ inl same ↦ rw same refl | inr differs ↦ rw differs (still_there field other word slots) ])
] where
  here : (own : Word) → is_some (word_at other ((slot.0, word) ∷ slots)) ≡ is_some (word_at other ((slot.0, own) ∷ slots))
  here own = elim (cases_Bool (eqb slot.0 other)) [ inl same ↦ rw same refl | inr differs ↦ rw differs refl ]

have_still : (field : ℕ) (word : Word) (fields : List ℕ) (slots : List (ℕ × Word)) → has_slots fields (put_word field word slots) ≡ has_slots fields slots
have_still field word [] slots = refl
have_still field word (other ∷ fields) slots = rw (still_there field other word slots, have_still field word fields slots) refl

-- a turn of the loop over fields, whose slot is at this place
pub record Turn (fields : List ℕ) (words : List Word) (slots : List (ℕ × Word)) (i found : ℕ) : Type 0 where
  pub within : i < length fields
  pub as_many : length words ≡ length fields
  pub place : place_from (get_or fields i 0) 0 slots ≡ Some found

abbrev pub none_read : Word
none_read = w.Int (pos 0)

-- the slots after the turn
abbrev pub after_turn : List ℕ → List Word → List (ℕ × Word) → ℕ → ℕ → List (ℕ × Word)
after_turn fields words slots i found = set slots found (get_or fields i 0, get_or words i none_read)

put_after : (fields : List ℕ) (words : List Word) (slots : List (ℕ × Word)) (i found : ℕ) → Turn fields words slots i found
    → put_word (get_or fields i 0) (get_or words i none_read) slots ≡ after_turn fields words slots i found
put_after fields words slots i found t =
    let p = placing (get_or fields i 0) 0 slots found t.place in
    p.puts (get_or words i none_read) ∙ ap (λ (k : ℕ). set slots k (get_or fields i 0, get_or words i none_read)) (sym (omega (arith, p.at)))

pub turn_within : (fields : List ℕ) (words : List Word) (slots : List (ℕ × Word)) (i found : ℕ) → Turn fields words slots i found → found < length slots
turn_within fields words slots i found t =
    let p = placing (get_or fields i 0) 0 slots found t.place in
    omega (arith, p.at, p.within)

pub turn_has : (fields : List ℕ) (words : List Word) (slots : List (ℕ × Word)) (i found : ℕ) → Turn fields words slots i found
    → has_slots (drop (i + 1) fields) (after_turn fields words slots i found) ≡ has_slots (drop i fields) slots
turn_has fields words slots i found t =
    let p = placing (get_or fields i 0) 0 slots found t.place in
    ap (has_slots (drop (i + 1) fields)) (sym (put_after fields words slots i found t))
    ∙ have_still (get_or fields i 0) (get_or words i none_read) (drop (i + 1) fields) slots
    ∙ sym (ap (λ (fs : List ℕ). has_slots fs slots) (drop_more fields i 0 t.within) ∙ rw p.has refl)

pub turn_filled : (fields : List ℕ) (words : List Word) (slots : List (ℕ × Word)) (i found : ℕ) → Turn fields words slots i found
    → filled_words (drop (i + 1) fields) (drop (i + 1) words) (after_turn fields words slots i found)
    ≡ filled_words (drop i fields) (drop i words) slots
turn_filled fields words slots i found t =
    ap (filled_words (drop (i + 1) fields) (drop (i + 1) words)) (sym (put_after fields words slots i found t))
    ∙ sym (ap (λ (fs : List ℕ). filled_words fs (drop i words) slots) (drop_more fields i 0 t.within)
    ∙ ap (λ (ws : List Word). filled_words (get_or fields i 0 ∷ drop (i + 1) fields) ws slots)
    (drop_more words i none_read (omega (arith, t.within, t.as_many))))

words_at : (texts : ℕ) (words : List Word) (i : ℕ) → AreWordsSound texts words → IsWordSound texts (get_or words i none_read)
words_at texts [] i all = tt
words_at texts (word ∷ words) zero all = all.0
words_at texts (word ∷ words) (suc i) all = words_at texts words i all.1

pub turn_sound : (texts : ℕ) (fields : List ℕ) (words : List Word) (slots : List (ℕ × Word)) (i found : ℕ) → Turn fields words slots i found
    → AreWordsSound texts words → AreSlotsSound texts slots → AreSlotsSound texts (after_turn fields words slots i found)
turn_sound texts fields words slots i found t given old =
    subst (AreSlotsSound texts) (put_after fields words slots i found t)
    (puts texts (get_or fields i 0) (get_or words i none_read) slots old (words_at texts words i given))

pub has_not : (fields : List ℕ) (slots : List (ℕ × Word)) (i : ℕ) → i < length fields → place_from (get_or fields i 0) 0 slots ≡ None
    → has_slots (drop i fields) slots ≡ false
has_not fields slots i lt none =
    ap (λ (fs : List ℕ). has_slots fs slots) (drop_more fields i 0 lt) ∙ rw (no_place (get_or fields i 0) 0 slots none) refl

-- ---- an object is made

-- the slots of a class at first, as words
pub record Shapes (image : Image) (all : Whole) (class : ℕ) (slots : List (ℕ × Word)) : Type 0 where
  pub shape : List Slot
  pub at : slice_get image.shapes class ≡ Some shape
  pub fresh_is : map (slot_value all.texts) slots ≡ fresh image.own shape

made_at : (image : Image) (all : Whole) (class : ℕ) (fields : List ℕ) (values : List Value) (slots : List (ℕ × Word)) (objects : List Placed)
    → Shapes image all class slots → made image class fields values objects ≡ made_of class fields values objects (map (slot_value all.texts) slots)
made_at image all class fields values slots objects s =
    ap (λ (o : Option (List Slot)). elim o as (λ o'. Making by_place) [
      | Some shape ↦ made_of class fields values objects (fresh image.own shape)
      | None ↦ NoClass
    ])
    s.at
    ∙ ap (made_of class fields values objects) (sym s.fresh_is)

abbrev topmost : ℕ → Kept → List Word
topmost count m = reverse (take count m.stacked.running.operands)

abbrev makes_of : Image → Whole → ℕ → List ℕ → Kept → List Value → List (Frame by_place) → Stepped by_place
makes_of image all class fields old values frames = makes (made image class fields values (things_of all.texts old.objects)) frames (state_of all old)

pub make_done : (image : Image) (all : Whole) (class : ℕ) (fields : List ℕ) (old : Kept) (slots : List (ℕ × Word)) → Shapes image all class slots
    → length fields ≤ length old.stacked.running.operands → has_slots fields slots ≡ true
    → acted image (n.New class fields) (machine_of image all old)
    ≡ On (machine_of image all (record old {
      stacked = pushed (w.Object (length old.objects)) (forgotten (length fields) old.stacked);
      objects = old.objects ++ record { class = class; slots = filled_words fields (topmost (length fields) old) slots } ∷ [];
    }))
make_done image all class fields old slots s le has =
    takes image all (length fields) old (makes_of image all class fields old) le
    ∙ ap (λ (m : Making by_place). makes m (frames image all (length fields) old) (state_of all old))
    (made_at image all class fields (arguments all (length fields) old) slots (things_of all.texts old.objects) s)
    ∙ rw (
      have_mapped all.texts fields slots,
      has,
      filled_mapped all.texts fields (topmost (length fields) old) slots,
      length-map old.objects (placed_of all.texts),
      map-append (placed_of all.texts) old.objects (record { class = class; slots = filled_words fields (topmost (length fields) old) slots } ∷ []),
    ) refl

pub make_finds : (image : Image) (all : Whole) (class : ℕ) (fields : List ℕ) (old : Kept) (slots : List (ℕ × Word)) → Shapes image all class slots
    → length fields ≤ length old.stacked.running.operands → has_slots fields slots ≡ false
    → acted image (n.New class fields) (machine_of image all old) ≡ Finds
make_finds image all class fields old slots s le none =
    takes image all (length fields) old (makes_of image all class fields old) le
    ∙ ap (λ (m : Making by_place). makes m (frames image all (length fields) old) (state_of all old))
    (made_at image all class fields (arguments all (length fields) old) slots (things_of all.texts old.objects) s)
    ∙ rw (have_mapped all.texts fields slots, none) refl

pub make_lacks : (image : Image) (all : Whole) (class : ℕ) (fields : List ℕ) (old : Kept) → length old.stacked.running.operands < length fields
    → acted image (n.New class fields) (machine_of image all old) ≡ Lacks
make_lacks image all class fields old lt = takes_lacks image all (length fields) old (makes_of image all class fields old) lt

pub no_shape : (image : Image) (all : Whole) (class : ℕ) (fields : List ℕ) (old : Kept) → length fields ≤ length old.stacked.running.operands
    → slice_get image.shapes class ≡ None → acted image (n.New class fields) (machine_of image all old) ≡ Lacks
no_shape image all class fields old le none =
    takes image all (length fields) old (makes_of image all class fields old) le
    ∙ ap (λ (o : Option (List Slot)). makes (elim o as (λ o'. Making by_place) [
      | Some shape ↦ made_of class fields (arguments all (length fields) old) (things_of all.texts old.objects) (fresh image.own shape)
      | None ↦ NoClass
    ]) (frames image all (length fields) old) (state_of all old)) none
