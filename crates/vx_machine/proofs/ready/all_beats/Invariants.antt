use Rattle.std.proofs.Common.{◌≡◌, map, take}
use Rattle.vx_machine.specs.Meaning.{beats_in}
use Rattle.vx_machine.proofs.ready.all_beats.Given as goal

abbrev pub invariant-loop-table : goal.invariant-loop-table
invariant-loop-table l = l.beats ≡ map beats_in (take l.table-index l.tables)
