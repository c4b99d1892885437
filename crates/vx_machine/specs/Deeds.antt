-- What primitives make of the machine.
use Rattle.std.specs.Prelude.{◌≡◌, ℕ, ◌==◌, Bool, false, List, [], ◌∷◌, Option, Some, None, Result, IfOk}
use Rattle.std.specs.Ordering.{int_eq}
use Rattle.std.specs.declared.alloc.AllocError.{AllocError}
use Rattle.vx_syntax.specs.Expressions.{Bytes}
use Rattle.vx_model.specs.declared.value.Value.{Value}
use Rattle.vx_model.specs.declared.value.Value.TheVariants as v
use Rattle.vx_model.specs.declared.report.RunError.TheVariants as e
use Rattle.vx_model.specs.declared.primitives.Deed.{Deed}
use Rattle.vx_model.specs.declared.primitives.Deed.TheVariants as deeds
use Rattle.vx_format.specs.declared.image.Image.{Image}
use Rattle.vx_compilation.specs.Machine.{does}
use Rattle.vx_places.specs.ImageMachine.{codes_of, world}
use Rattle.vx_machine.specs.declared.word.Word.{Word}
use Rattle.vx_machine.specs.declared.word.Word.TheVariants as w
use Rattle.vx_machine.specs.declared.word.Step.{Step}
use Rattle.vx_machine.specs.declared.primitives.Answer.{Answer}
use Rattle.vx_machine.specs.declared.primitives.Answer.TheVariants as answers
use Rattle.vx_machine.specs.declared.primitives.Joined.{Joined}
use Rattle.vx_machine.specs.declared.primitives.Joined.TheVariants as joined
use Rattle.vx_machine.specs.Cuts.{Extends}
use Rattle.vx_machine.specs.Sound.{IsWordSound}
use Rattle.vx_machine.specs.Meaning.{Covers, Does, Kept, Texts, Whole, arguments, frames, machine_of, state_of, value_of}

-- a call did what the definition says of a deed that so many operands come to
abbrev pub Performs : Image → (List Value → Deed) → ℕ → Result Step AllocError → Kept → Kept → Type 0
Performs image deed count result old new = IfOk result (λ step. (all : Whole) → Covers all new
    → Does step (does (world image) (codes_of image) (deed (arguments all count old)) (frames image all count old) (state_of all old))
    (machine_of image all new))

-- what two words are
abbrev pub two_of : Texts → Word → Word → List Value
two_of texts a b = value_of texts a ∷ value_of texts b ∷ []

-- the deed that an answer stands for
abbrev pub deed_of : Texts → Answer → Deed
deed_of texts (answers.Word word) = deeds.Answers (value_of texts word)
deed_of texts (answers.Breaks error) = deeds.Breaks error
deed_of texts answers.Finds = deeds.Lacks

-- an answer names no string that was made
abbrev pub IsAnswerSound : Answer → Type 0
IsAnswerSound (answers.Word word) = (texts : ℕ) → IsWordSound texts word
IsAnswerSound answer = Unit {0}

-- an answer stands for a deed of two words, whatever strings are made later
abbrev pub Answers : List Bytes → (List Value → Deed) → Word → Word → Answer → Type 0
Answers made deed a b answer = (texts : Texts) → Extends made texts → deed_of texts answer ≡ deed (two_of texts a b)

-- the bytes of a string
abbrev pub bytes_of : Value → Option Bytes
bytes_of (v.Text bytes) = Some bytes
bytes_of value = None

abbrev pub both : Option Bytes → Option Bytes → Option (Bytes × Bytes)
both (Some a) (Some b) = Some (a, b)
both a b = None

-- the same number, closure or object
abbrev pub same_plain : Value → Value → Bool
same_plain (v.Int a) (v.Int b) = int_eq a b
same_plain (v.Closure a) (v.Closure b) = a == b
same_plain (v.Object a) (v.Object b) = a == b
same_plain a b = false

-- a line is printed, if there is one
abbrev pub printed : Option Bytes → Deed
printed (Some line) = deeds.Prints line
printed None = deeds.Lacks

abbrev pub closure_of : Word → Option ℕ
closure_of (w.Closure closure) = Some closure
closure_of word = None

-- what becomes of two strings
abbrev pub joins : Joined → Deed
joins (joined.Text bytes) = deeds.Answers (v.Text bytes)
joins joined.TooLong = deeds.Breaks e.StringLimit
joins joined.Finds = deeds.Lacks
