-- The words of a machine name what is there: strings that were made, and what closures captured.
use Rattle.std.specs.Prelude.{ℕ, ◌+◌, ◌<◌, ◌≤◌, List, ◌∷◌, length}
use Rattle.std.specs.List.{AllByRecursion}
use Rattle.vx_syntax.specs.Expressions.{Bytes}
use Rattle.vx_machine.specs.declared.word.Word.{Word}
use Rattle.vx_machine.specs.declared.word.Word.TheVariants as w
use Rattle.vx_machine.specs.declared.word.Local.{Local}
use Rattle.vx_machine.specs.declared.word.Local.TheVariants as h
use Rattle.vx_machine.specs.declared.word.Held.{Held}
use Rattle.vx_machine.specs.declared.word.Role.{Role}
use Rattle.vx_machine.specs.declared.word.Role.TheVariants as roles
use Rattle.vx_machine.specs.declared.word.Object.{Object}
use Rattle.vx_machine.specs.Cuts.{Cut, Stacked}
use Rattle.vx_machine.specs.Meaning.{Kept}

-- where so many strings were made
abbrev pub IsWordSound : ℕ → Word → Type 0
IsWordSound texts (w.Text place) = place < texts
IsWordSound texts word = Unit {0}

abbrev pub AreWordsSound : ℕ → List Word → Type 0
AreWordsSound texts words = AllByRecursion (IsWordSound texts) words

abbrev pub IsLocalSound : ℕ → Local → Type 0
IsLocalSound texts (h.Plain word) = IsWordSound texts word
IsLocalSound texts local = Unit {0}

abbrev pub AreLocalsSound : ℕ → List Local → Type 0
AreLocalsSound texts locals = AllByRecursion (IsLocalSound texts) locals

-- where so much was captured
abbrev pub IsHeldSound : ℕ → Held → Type 0
IsHeldSound captured held = (held.first + held.count) ≤ captured

abbrev pub IsRoleSound : ℕ → Role → Type 0
IsRoleSound captured (roles.Turn held) = IsHeldSound captured held
IsRoleSound captured role = Unit {0}

-- where so many strings were made and so much was captured
pub record IsCutSound (texts captured : ℕ) (cut : Cut) : Type 0 where
  pub operands : AreWordsSound texts cut.operands
  pub locals : AreLocalsSound texts cut.locals
  pub role : IsRoleSound captured cut.role

abbrev pub IsStackSound : ℕ → ℕ → Stacked → Type 0
IsStackSound texts captured s = AllByRecursion (IsCutSound texts captured) (s.running ∷ s.waiting)

abbrev pub AreSlotsSound : ℕ → List (ℕ × Word) → Type 0
AreSlotsSound texts slots = AllByRecursion (λ slot. IsWordSound texts slot.1) slots

abbrev pub IsObjectSound : ℕ → Object → Type 0
IsObjectSound texts object = AreSlotsSound texts object.slots

-- what is kept besides the activations
pub record AreSound (texts : List Bytes) (captured : List Local) (objects : List Object) (cells : List Word) (closures : List Held) : Type 0 where
  pub of_objects : AllByRecursion (IsObjectSound (length texts)) objects
  pub of_cells : AreWordsSound (length texts) cells
  pub of_closures : AllByRecursion (IsHeldSound (length captured)) closures
  pub of_captured : AreLocalsSound (length texts) captured

abbrev pub IsSound : Kept → Type 0
IsSound m = IsStackSound (length m.texts) (length m.captured) m.stacked × AreSound m.texts m.captured m.objects m.cells m.closures
