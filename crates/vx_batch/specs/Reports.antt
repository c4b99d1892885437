-- The texts of replies to runs: the lines that were printed, and how the run ended.
use Rattle.std.specs.Prelude.{ℕ, List, ◌++◌, codes}
use Rattle.std.specs.Fmt.{decimal}
use Rattle.std.specs.List.{flat_map}
use Rattle.vx_syntax.specs.declared.decl.Decl.{Decl}
use Rattle.vx_syntax.specs.Print.{selector_text}
use Rattle.vx_model.specs.declared.report.RunError.{RunError}
use Rattle.vx_model.specs.declared.report.RunError.TheVariants as e
use Rattle.vx_model.specs.declared.report.Report.{Report}
use Rattle.vx_model.specs.declared.report.Report.TheVariants as r
use Rattle.vx_model.specs.Meaning.{meaning}
use Rattle.vx_batch.specs.Text.{line}

-- the words for why a run stopped before its end
abbrev pub error_words : RunError → List ℕ
error_words (e.NotUnderstood selector) = codes "message not understood: " ++ selector_text selector
error_words (e.Ambiguous selector) = codes "message ambiguous: " ++ selector_text selector
error_words e.Overflow = codes "overflow"
error_words e.DivideByZero = codes "division by zero"
error_words e.DeadReturn = codes "dead return"
error_words (e.NoField name) = codes "no field " ++ name
error_words (e.UnknownObject name) = codes "unknown object " ++ name
error_words (e.ClosureArity count) = codes "closure arity " ++ decimal count
error_words e.StringLimit = codes "string limit"

-- a line that was printed
abbrev pub printed_line : List ℕ → List ℕ
printed_line printed = line (codes "> " ++ printed)

-- the lines that were printed, a line of the reply each
abbrev pub printed_text : List (List ℕ) → List ℕ
printed_text lines = flat_map printed_line lines

-- The lines, and how the run ended. No run of a program ends in the last way.
abbrev pub report_text : Report → List ℕ
report_text (r.End lines) = printed_text lines ++ line (codes "= end")
report_text (r.Error lines error) = printed_text lines ++ line (codes "= error " ++ error_words error)
report_text (r.Unfinished lines) = printed_text lines ++ line (codes "= unfinished")
report_text (r.Stuck lines) = printed_text lines ++ line (codes "= stuck")

-- The program's meaning with an allowance of so many calls.
abbrev pub mean_text : List Decl → ℕ → List ℕ
mean_text program f = report_text (meaning program f)
