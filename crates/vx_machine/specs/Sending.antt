-- What a send comes to when its row is found.
use Rattle.std.specs.Prelude.{◌≡◌, ◌≤◌, ℕ, Bool, true, false, length, Option, Some, None, Result, IfOk}
use Rattle.std.specs.declared.alloc.AllocError.{AllocError}
use Rattle.vx_format.specs.declared.image.Does.{Does}
use Rattle.vx_format.specs.declared.image.Instr.{Instr}
use Rattle.vx_format.specs.declared.image.Table.{Table}
use Rattle.vx_format.specs.declared.image.Image.{Image}
use Rattle.vx_compilation.specs.Activations.{Target, ToCode, ToNothing, ToPrimitive}
use Rattle.vx_places.specs.ImageMachine.{by_place, goes_to, sent}
use Rattle.vx_machine.specs.declared.word.Word.{Word}
use Rattle.vx_machine.specs.declared.word.Word.TheVariants as w
use Rattle.vx_machine.specs.declared.word.Step.{Step}
use Rattle.vx_machine.specs.declared.word.Led.{Led}
use Rattle.vx_machine.specs.declared.word.Led.TheVariants as led
use Rattle.vx_machine.specs.Meaning.{Kept, Whole, Covers, acted, arguments, machine_of, reached, things_of}
use Rattle.vx_machine.specs.Meaning as meaning

-- what a row of the table goes to
abbrev pub target_of : Image → Table → Does → Whole → ℕ → Kept → Target by_place
target_of image table deed all count m = goes_to image (things_of all.texts m.objects) table (arguments all count m) deed

-- a call did what the definition says of the row
abbrev pub Goes : Image → Table → Does → ℕ → Result Step AllocError → Kept → Kept → Type 0
Goes image table deed count result old new = IfOk result (λ step. (all : Whole) → Covers all new
    → meaning.Does step (reached image (target_of image table deed all count old) all count old) (machine_of image all new))

-- a code that was found, or nothing
abbrev pub to_code : Option ℕ → Target by_place
to_code (Some code) = ToCode code
to_code None = ToNothing

abbrev pub is_object : Option Word → Bool
is_object (Some (w.Object o)) = true
is_object word = false

-- what a table makes of so many operands as it takes
abbrev pub sent_of : Image → Table → Option ℕ → Kept → Whole → Target by_place
sent_of image table below m all = sent image (things_of all.texts m.objects) (Some table) (arguments all table.arity m) below

-- what was done is what the target comes to, or the target is a primitive and nothing is done yet
abbrev pub Led_to : Image → (Whole → Target by_place) → ℕ → Led → Kept → Kept → Type 0
Led_to image target count (led.Done step) old new = (all : Whole) → Covers all new
    → meaning.Does step (reached image (target all) all count old) (machine_of image all new)
Led_to image target count (led.Perform number) old new = ((all : Whole) → target all ≡ ToPrimitive number) × (new ≡ old)

abbrev pub Leads : Image → (Whole → Target by_place) → ℕ → Result Led AllocError → Kept → Kept → Type 0
Leads image target count result old new = IfOk result (λ what. Led_to image target count what old new)

-- an instruction that sends was done, or it comes to a primitive with operands that are there, and nothing is done yet
abbrev pub Acted : Image → Instr → ℕ → Led → Kept → Kept → Type 0
Acted image instr count (led.Done step) old new = (all : Whole) → Covers all new
    → meaning.Does step (acted image instr (machine_of image all old)) (machine_of image all new)
Acted image instr count (led.Perform number) old new = ((all : Whole)
    → acted image instr (machine_of image all old) ≡ reached image (ToPrimitive number) all count old)
    × (count ≤ length old.stacked.running.operands) × (new ≡ old)

abbrev pub Acts : Image → Instr → ℕ → Result Led AllocError → Kept → Kept → Type 0
Acts image instr count result old new = IfOk result (λ what. Acted image instr count what old new)
