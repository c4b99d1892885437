-- Steps, and what a run comes to.
use Rattle.std.specs.Prelude.{◌≡◌, ℕ, List, Result, IfOk}
use Rattle.std.specs.declared.alloc.AllocError.{AllocError}
use Rattle.vx_syntax.specs.Expressions.{Bytes}
use Rattle.vx_model.specs.declared.report.Report.{Report}
use Rattle.vx_model.specs.declared.report.Report.TheVariants as r
use Rattle.vx_format.specs.declared.image.Image.{Image}
use Rattle.vx_compilation.specs.Machine as machine
use Rattle.vx_compilation.specs.Machine.{Stepped, comes}
use Rattle.vx_places.specs.ImageMachine.{by_place, codes_of, world}
use Rattle.vx_machine.specs.declared.word.Step.{Step}
use Rattle.vx_machine.specs.declared.word.Step.TheVariants as steps
use Rattle.vx_machine.specs.declared.runs.Ending.{Ending}
use Rattle.vx_machine.specs.declared.runs.Ending.TheVariants as endings
use Rattle.vx_machine.specs.Meaning.{Covers, Does, Kept, Whole, machine_of, state_of}

-- what the machine's next step comes to
abbrev pub stepped : Image → Whole → Kept → Stepped by_place
stepped image all m = machine.step (world image) (codes_of image) (machine_of image all m)

-- a call did what the definition says of the next step
abbrev pub Steps : Image → Result Step AllocError → Kept → Kept → Type 0
Steps image result old new = IfOk result (λ step. (all : Whole) → Covers all new → Does step (stepped image all old) (machine_of image all new))

-- what so many instructions more come to
abbrev pub goes_on : Image → Whole → ℕ → Kept → Report
goes_on image all n m = comes (world image) (codes_of image) n (state_of all m) (stepped image all m)

-- the report of an ending
abbrev pub report_with : Ending → List Bytes → Report
report_with endings.End lines = r.End lines
report_with (endings.Error error) lines = r.Error lines error
report_with endings.Unfinished lines = r.Unfinished lines
report_with endings.Stuck lines = r.Stuck lines

-- how a run ends whose next step would come to this
abbrev pub looked : Step → Ending
looked steps.Lacks = endings.Stuck
looked step = endings.Unfinished

-- So many instructions from the machine end so, with the lines that the machine has afterwards.
abbrev pub Ends : Image → ℕ → Result Ending AllocError → Kept → Kept → Type 0
Ends image n result old new = IfOk result (λ ending. (all : Whole) × Covers all old × (goes_on image all n old ≡ report_with ending new.lines))
