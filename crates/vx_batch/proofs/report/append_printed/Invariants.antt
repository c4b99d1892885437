use Rattle.std.proofs.Common.{◌≡◌, ◌++◌, take}
use Rattle.vx_batch.specs.Reports.{printed_text}
use Rattle.vx_batch.proofs.report.append_printed.Given as goal

abbrev pub invariant-loop-printed : goal.invariant-loop-printed
invariant-loop-printed l = l.text.items ≡ l.initial.text.items ++ printed_text (take l.printed-index l.lines)
