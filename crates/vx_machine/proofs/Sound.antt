-- Why the words of a machine name what is there, whatever is done.
use Rattle.std.proofs.Common.{◌≡◌, ℕ, zero, suc, ◌+◌, ◌≤◌, eqb, true, List, [], ◌∷◌, ◌++◌, length, map, take, drop, reverse, replicate}
use Rattle.std.proofs.Common.{Some, subst, sym, ap, ◌<◌, arith, inl, inr}
use Rattle.std.specs.List.{AllByRecursion}
use Rattle.std.specs.Prelude.{slice_get}
use Rattle.std.proofs.lemmas.Bool.{cases_Bool}
use Rattle.std.proofs.lemmas.List.{reverse-append, length-append, append-nil}
use Rattle.vx_lists.proofs.Each.{all_at, all_joined, all_more, all_pushed, all_set}
use Rattle.vx_syntax.specs.Expressions.{Bytes}
use Rattle.vx_format.specs.declared.image.Block.{Block}
use Rattle.vx_machine.specs.declared.word.Word.{Word}
use Rattle.vx_machine.specs.declared.word.Word.TheVariants as w
use Rattle.vx_machine.specs.declared.word.Local.{Local}
use Rattle.vx_machine.specs.declared.word.Local.TheVariants as h
use Rattle.vx_machine.specs.declared.word.Held.{Held}
use Rattle.vx_machine.specs.declared.word.Role.{Role}
use Rattle.vx_machine.specs.declared.word.Role.TheVariants as roles
use Rattle.vx_machine.specs.declared.word.Object.{Object}
use Rattle.vx_machine.specs.Cuts.{Cut, Stacked, Extends, IsRest, emptied, entered, forgotten, opened, pushed, restarted, with_left, with_local}
use Rattle.vx_format.specs.declared.image.Instr.{Instr}
use Rattle.vx_machine.specs.Opening.{alone}
use Rattle.vx_machine.specs.Slots.{Changes, held_at, put_word, word_at}
use Rattle.vx_machine.specs.Sound.{IsWordSound, AreWordsSound, IsLocalSound, AreLocalsSound, IsHeldSound, IsRoleSound, IsCutSound, IsStackSound, IsObjectSound}
use Rattle.vx_machine.specs.Sound.{AreSound, IsSound}
use Rattle.vx_machine.specs.Meaning.{Kept}

-- ---- parts of lists

pub all_dropped : {X : Type 0} (P : X → Type 0) (n : ℕ) (xs : List X) → AllByRecursion P xs → AllByRecursion P (drop n xs)
all_dropped P zero xs all = all
all_dropped P (suc n) [] all = tt
all_dropped P (suc n) (x ∷ xs) all = all_dropped P n xs all.1

pub all_taken : {X : Type 0} (P : X → Type 0) (n : ℕ) (xs : List X) → AllByRecursion P xs → AllByRecursion P (take n xs)
all_taken P zero xs all = tt
all_taken P (suc n) [] all = tt
all_taken P (suc n) (x ∷ xs) all = (all.0, all_taken P n xs all.1)

pub all_reversed : {X : Type 0} (P : X → Type 0) (xs : List X) → AllByRecursion P xs → AllByRecursion P (reverse xs)
all_reversed P [] all = tt
all_reversed P (x ∷ xs) all = rw (reverse-append (x ∷ []) xs) (all_pushed P (reverse xs) x (all_reversed P xs all.1) all.0)

-- what holds of all holds of those behind
pub all_behind : {X : Type 0} (P : X → Type 0) (xs ys : List X) → AllByRecursion P (xs ++ ys) → AllByRecursion P ys
all_behind P [] ys all = all
all_behind P (x ∷ xs) ys all = all_behind P xs ys all.1

-- ---- more is made

word_grows : (texts more : ℕ) → texts ≤ more → (word : Word) → IsWordSound texts word → IsWordSound more word
word_grows texts more le (w.Int z) is = tt
word_grows texts more le (w.Constant bytes) is = tt
word_grows texts more le (w.Text place) is = omega arith
word_grows texts more le (w.Closure place) is = tt
word_grows texts more le (w.Object place) is = tt

local_grows : (texts more : ℕ) → texts ≤ more → (local : Local) → IsLocalSound texts local → IsLocalSound more local
local_grows texts more le h.Unset is = tt
local_grows texts more le (h.Plain word) is = word_grows texts more le word is
local_grows texts more le (h.Cell place) is = tt

role_grows : (captured more : ℕ) → captured ≤ more → (role : Role) → IsRoleSound captured role → IsRoleSound more role
role_grows captured more le (roles.Method number) is = tt
role_grows captured more le (roles.Evaluation home) is = tt
role_grows captured more le (roles.Turn held) is = omega arith

cut_grows : (texts texts' captured captured' : ℕ) → texts ≤ texts' → captured ≤ captured' → (cut : Cut) → IsCutSound texts captured cut
    → IsCutSound texts' captured' cut
cut_grows texts texts' captured captured' t c cut is = record {
  operands = all_more (IsWordSound texts) (IsWordSound texts') cut.operands (word_grows texts texts' t) is.operands;
  locals = all_more (IsLocalSound texts) (IsLocalSound texts') cut.locals (local_grows texts texts' t) is.locals;
  role = role_grows captured captured' c cut.role is.role;
}

pub length_grows : {A : Type 0} (old new : List A) → Extends old new → length old ≤ length new
length_grows old new more = omega (arith, ap length more.1, length-append old more.0)

pub stack_grows : (texts texts' : List Bytes) (captured captured' : List Local) (s : Stacked) → Extends texts texts' → Extends captured captured'
    → IsStackSound (length texts) (length captured) s → IsStackSound (length texts') (length captured') s
stack_grows texts texts' captured captured' s t c is =
    all_more (IsCutSound (length texts) (length captured)) (IsCutSound (length texts') (length captured')) (s.running ∷ s.waiting)
    (cut_grows (length texts) (length texts') (length captured) (length captured') (length_grows texts texts' t) (length_grows captured captured' c)) is

object_grows : (texts more : ℕ) → texts ≤ more → (object : Object) → IsObjectSound texts object → IsObjectSound more object
object_grows texts more le object is =
    all_more (λ slot. IsWordSound texts slot.1) (λ slot. IsWordSound more slot.1) object.slots (λ slot. word_grows texts more le slot.1) is

-- a string is made
pub texts_grow : (texts texts' : List Bytes) (captured : List Local) (objects : List Object) (cells : List Word) (closures : List Held) → Extends texts texts'
    → AreSound texts captured objects cells closures → AreSound texts' captured objects cells closures
texts_grow texts texts' captured objects cells closures t is =
    let le : length texts ≤ length texts' = length_grows texts texts' t in
    record {
      of_objects =
          all_more (IsObjectSound (length texts)) (IsObjectSound (length texts')) objects (object_grows (length texts) (length texts') le) is.of_objects;
      of_cells = all_more (IsWordSound (length texts)) (IsWordSound (length texts')) cells (word_grows (length texts) (length texts') le) is.of_cells;
      of_closures = is.of_closures;
      of_captured =
          all_more (IsLocalSound (length texts)) (IsLocalSound (length texts')) captured (local_grows (length texts) (length texts') le) is.of_captured;
    }

-- more is captured
pub captured_grows : (texts : List Bytes) (captured captured' : List Local) (objects : List Object) (cells : List Word) (closures : List Held)
    → Extends captured captured' → AreLocalsSound (length texts) captured'
    → AreSound texts captured objects cells closures → AreSound texts captured' objects cells closures
captured_grows texts captured captured' objects cells closures c new is =
    let le : length captured ≤ length captured' = length_grows captured captured' c in
    record {
      of_objects = is.of_objects;
      of_cells = is.of_cells;
      of_closures = all_more (IsHeldSound (length captured)) (IsHeldSound (length captured')) closures (λ held within. omega arith) is.of_closures;
      of_captured = new;
    }

-- ---- activations

pub pushes : (texts captured : ℕ) (word : Word) (s : Stacked) → IsStackSound texts captured s → IsWordSound texts word
    → IsStackSound texts captured (pushed word s)
pushes texts captured word s is own = (record { operands = (own, is.0.operands); locals = is.0.locals; role = is.0.role }, is.1)

pub pops : (texts captured : ℕ) (word : Word) (old s : Stacked) → old ≡ pushed word s → IsStackSound texts captured old
    → IsStackSound texts captured s × IsWordSound texts word
pops texts captured word old s e is =
    let own : IsStackSound texts captured (pushed word s) = subst (IsStackSound texts captured) e is in
    ((record { operands = own.0.operands.1; locals = own.0.locals; role = own.0.role }, own.1), own.0.operands.0)

pub local_is : (texts captured : ℕ) (x : ℕ) (held : Local) (s : Stacked) → slice_get s.running.locals x ≡ Some held → IsStackSound texts captured s
    → IsLocalSound texts held
local_is texts captured x held s at is = all_at (IsLocalSound texts) s.running.locals x held at is.0.locals

pub sets : (texts captured : ℕ) (x : ℕ) (held : Local) (s : Stacked) → IsStackSound texts captured s → IsLocalSound texts held
    → IsStackSound texts captured (with_local x held s)
sets texts captured x held s is own =
    (record { operands = is.0.operands; locals = all_set (IsLocalSound texts) s.running.locals x held is.0.locals own; role = is.0.role }, is.1)

plains : (texts : ℕ) (words : List Word) → AreWordsSound texts words → AreLocalsSound texts (map (λ word. h.Plain word) words)
plains texts [] all = tt
plains texts (word ∷ words) all = (all.0, plains texts words all.1)

unsets : (texts n : ℕ) → AreLocalsSound texts (replicate n h.Unset)
unsets texts zero = tt
unsets texts (suc n) = (tt, unsets texts n)

opens : (texts count : ℕ) (captures : List Local) (words : List Word) → AreLocalsSound texts captures → AreWordsSound texts words
    → AreLocalsSound texts (opened count captures words)
opens texts count captures words held given =
    all_joined (IsLocalSound texts) captures _ held
    (all_joined (IsLocalSound texts) (map (λ word. h.Plain word) words) _ (plains texts words given) (unsets texts _))

pub enters : (texts captured : ℕ) (code : ℕ) (block : Block) (captures : List Local) (count under : ℕ) (role : Role) (s : Stacked)
    → IsStackSound texts captured s → AreLocalsSound texts captures → IsRoleSound captured role
    → IsStackSound texts captured (entered code block captures count under role s)
enters texts captured code block captures count under role s is held own = (
  record {
    operands = tt;
    locals = opens texts block.locals captures (reverse (take count s.running.operands)) held
        (all_reversed (IsWordSound texts) (take count s.running.operands) (all_taken (IsWordSound texts) count s.running.operands is.0.operands));
    role = own;
  },
  (
    record {
      operands = all_dropped (IsWordSound texts) (count + under) s.running.operands is.0.operands;
      locals = is.0.locals;
      role = is.0.role;
    },
    is.1,
  ),
)

pub restarts : (texts captured : ℕ) (code : ℕ) (block : Block) (captures : List Local) (role : Role) (s : Stacked)
    → IsStackSound texts captured s → AreLocalsSound texts captures → IsRoleSound captured role
    → IsStackSound texts captured (restarted code block captures role s)
restarts texts captured code block captures role s is held own =
    (record { operands = tt; locals = opens texts block.locals captures [] held tt; role = own }, is.1)

pub empties : (texts captured : ℕ) (s : Stacked) → IsStackSound texts captured s → IsStackSound texts captured (emptied s)
empties texts captured s is = (record { operands = tt; locals = tt; role = is.0.role }, is.1)

-- those that are left
pub leaves : (texts captured : ℕ) (old s : Stacked) → IsRest (old.running ∷ old.waiting) (s.running ∷ s.waiting) → IsStackSound texts captured old
    → IsStackSound texts captured s
leaves texts captured old s rest is =
    all_behind (IsCutSound texts captured) rest.0 (s.running ∷ s.waiting) (subst (AllByRecursion (IsCutSound texts captured)) rest.1 is)

-- ---- objects

pub word_is : (texts : ℕ) (field : ℕ) (word : Word) (slots : List (ℕ × Word)) → AllByRecursion (λ slot. IsWordSound texts slot.1) slots
    → word_at field slots ≡ Some word → IsWordSound texts word
word_is texts field word [] all at = absurd cc
word_is texts field word (slot ∷ slots) all at =
    elim (cases_Bool (eqb slot.0 field)) [
      | inl is ↦ (let same : slot.1 ≡ word = (let read : Some slot.1 ≡ Some word = rw is at at in cc) in subst (IsWordSound texts) same all.0)
      | inr is ↦ word_is texts field word slots all.1 (rw is at at)
    ]

pub held_is : (texts : ℕ) (objects : List Object) (number field : ℕ) (word : Word) → AllByRecursion (IsObjectSound texts) objects
    → held_at objects number field ≡ Some word → IsWordSound texts word
held_is texts [] number field word all at = absurd cc
held_is texts (object ∷ objects) zero field word all at = word_is texts field word object.slots all.0 at
held_is texts (object ∷ objects) (suc number) field word all at = held_is texts objects number field word all.1 at

pub puts : (texts : ℕ) (field : ℕ) (word : Word) (slots : List (ℕ × Word)) → AllByRecursion (λ slot. IsWordSound texts slot.1) slots → IsWordSound texts word
    → AllByRecursion (λ slot. IsWordSound texts slot.1) (put_word field word slots)
puts texts field word [] all own = tt
puts texts field word (slot ∷ slots) all own =
    elim (cases_Bool (eqb slot.0 field)) [ inl is ↦ rw is (own, all.1) | inr is ↦ rw is (all.0, puts texts field word slots all.1 own) ]

pub changes : (texts : ℕ) (number field : ℕ) (word : Word) (old new : List Object) → Changes true number field word old new
    → AllByRecursion (IsObjectSound texts) old → IsWordSound texts word → AllByRecursion (IsObjectSound texts) new
changes texts number field word old new done all own =
    rw (done.4)
    (all_set (IsObjectSound texts) old number _ all
    (puts texts field word done.0.slots (all_at (IsObjectSound texts) old number done.0 done.2 all) own))

-- ---- machines

-- the objects changed
pub with_objects : (m : Kept) (s : Stacked) (objects : List Object) → IsStackSound (length m.texts) (length m.captured) s
    → AreSound m.texts m.captured m.objects m.cells m.closures → AllByRecursion (IsObjectSound (length m.texts)) objects
    → IsSound (record m { stacked = s; objects = objects })
with_objects m s objects stack rest all =
    (stack, record { of_objects = all; of_cells = rest.of_cells; of_closures = rest.of_closures; of_captured = rest.of_captured })

-- more is captured
pub with_captured : (m : Kept) (captured : List Local) → IsSound m → Extends m.captured captured → AreLocalsSound (length m.texts) captured
    → IsSound (record m { captured = captured })
with_captured m captured is more all = (
  stack_grows m.texts m.texts m.captured captured m.stacked ([], sym (append-nil m.texts)) more is.0,
  captured_grows m.texts m.captured captured m.objects m.cells m.closures more all is.1,
)

-- a closure is made
pub with_closure : (m : Kept) (held : Held) → IsSound m → IsHeldSound (length m.captured) held → IsSound (record m { closures = m.closures ++ held ∷ [] })
with_closure m held is own = (
  is.0,
  record {
    of_objects = is.1.of_objects;
    of_cells = is.1.of_cells;
    of_closures = all_pushed (IsHeldSound (length m.captured)) m.closures held is.1.of_closures own;
    of_captured = is.1.of_captured;
  },
)

-- a string is made
pub with_text : (m : Kept) (texts : List Bytes) (bytes : Bytes) → texts ≡ m.texts ++ bytes ∷ [] → IsSound m → IsSound (record m { texts = texts })
with_text m texts bytes e is = (
  stack_grows m.texts texts m.captured m.captured m.stacked (bytes ∷ [], e) ([], sym (append-nil m.captured)) is.0,
  texts_grow m.texts texts m.captured m.objects m.cells m.closures (bytes ∷ [], e) is.1,
)

pub text_is : (before texts : List Bytes) (bytes : Bytes) → texts ≡ before ++ bytes ∷ [] → length before < length texts
text_is before texts bytes e = omega (arith, ap length e, length-append before (bytes ∷ []))

-- what is captured from a place on
pub part_is : (texts : ℕ) (captured found : List Local) (first count : ℕ) → found ≡ take count (drop first captured) → AreLocalsSound texts captured
    → AreLocalsSound texts found
part_is texts captured found first count is all =
    rw is (all_taken (IsLocalSound texts) count (drop first captured) (all_dropped (IsLocalSound texts) first captured all))

-- ---- new objects

pub forgets : (texts captured count : ℕ) (s : Stacked) → IsStackSound texts captured s → IsStackSound texts captured (forgotten count s)
forgets texts captured count s is = (
  record {
    operands = all_dropped (IsWordSound texts) count s.running.operands is.0.operands;
    locals = is.0.locals;
    role = is.0.role;
  },
  is.1,
)

-- the topmost operands
pub taken_words : (texts captured count : ℕ) (s : Stacked) → IsStackSound texts captured s
    → AreWordsSound texts (reverse (take count s.running.operands))
taken_words texts captured count s is =
    all_reversed (IsWordSound texts) (take count s.running.operands) (all_taken (IsWordSound texts) count s.running.operands is.0.operands)

pub with_made : (texts : List Bytes) (captured : List Local) (objects : List Object) (cells : List Word) (closures : List Held) (object : Object)
    → AreSound texts captured objects cells closures → IsObjectSound (length texts) object
    → AreSound texts captured (objects ++ object ∷ []) cells closures
with_made texts captured objects cells closures object is own = record {
  of_objects = all_pushed (IsObjectSound (length texts)) objects object is.of_objects own;
  of_cells = is.of_cells;
  of_closures = is.of_closures;
  of_captured = is.of_captured;
}

-- a first activation
pub alone_sound : (texts captured code : ℕ) (block : Block) → IsStackSound texts captured (alone code block)
alone_sound texts captured code block = (record { operands = tt; locals = opens texts block.locals [] [] tt tt; role = tt }, tt)

-- the next instruction is taken
pub takes_next : (texts captured : ℕ) (old s : Stacked) (instrs : List Instr) → old ≡ with_left instrs s → IsStackSound texts captured old
    → IsStackSound texts captured s
takes_next texts captured old s instrs e is =
    let own : IsStackSound texts captured (with_left instrs s) = subst (IsStackSound texts captured) e is in
    (record { operands = own.0.operands; locals = own.0.locals; role = own.0.role }, own.1)
