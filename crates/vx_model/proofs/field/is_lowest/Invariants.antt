use Rattle.std.proofs.Common.{◌≡◌, drop}
use Rattle.vx_model.specs.Fields.{is_lowest, keys_above}
use Rattle.vx_model.proofs.field.is_lowest.Given as goal

abbrev pub invariant-loop-decl : goal.invariant-loop-decl
invariant-loop-decl l =
    is_lowest l.program (keys_above l.program l.above.1 l.name l.program) l.key ≡
    is_lowest l.program (keys_above l.program l.above.1 l.name (drop l.decl-index l.program)) l.key
