use Rattle.std.proofs.Common.{◌≡◌, ◌++◌, drop}
use Rattle.vx_units.specs.Signs.{each}
use Rattle.vx_units.specs.CodeUnit.{count}
use Rattle.vx_codegen.proofs.instructions.append_each_local.Given as goal

abbrev pub invariant-loop-local : goal.invariant-loop-local
invariant-loop-local l = l.unit ++ each count (drop l.local-index l.locals) ≡ l.initial.unit ++ each count l.locals
