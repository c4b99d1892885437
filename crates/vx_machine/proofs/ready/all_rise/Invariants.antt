use Rattle.std.proofs.Common.{◌≡◌, drop}
use Rattle.std.specs.List.{list_all}
use Rattle.vx_machine.specs.Opening.{rising}
use Rattle.vx_machine.proofs.ready.all_rise.Given as goal

abbrev pub invariant-loop-table : goal.invariant-loop-table
invariant-loop-table l =
    list_all (λ table. list_all (λ position. rising 0 position.classes) table.positions) (drop l.table-index l.tables)
    ≡ list_all (λ table. list_all (λ position. rising 0 position.classes) table.positions) l.tables
