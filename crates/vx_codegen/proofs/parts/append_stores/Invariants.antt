use Rattle.std.proofs.Common.{◌≡◌, ◌++◌, ◌≤◌, length, take}
use Rattle.vx_compilation.specs.Code.{Instructions, stores_code}
use Rattle.vx_units.specs.CodeUnit.{code_signs}
use Rattle.vx_codegen.proofs.parts.append_stores.Given as goal

abbrev pub decreases-loop-left : goal.decreases-loop-left
decreases-loop-left l = l.left

abbrev pub invariant-loop-left : goal.invariant-loop-left
invariant-loop-left l =
    (l.left ≤ length l.locals) × ((following : Instructions) → l.unit ++ code_signs (stores_code (take l.left l.locals) following)
    ≡ l.initial.unit ++ code_signs (stores_code l.locals following))
