use Rattle.std.proofs.Common.{◌≡◌, drop}
use Rattle.std.specs.List.{find}
use Rattle.vx_model.specs.Fields.{field_at, is_lowest, keys_above}
use Rattle.vx_model.proofs.field.field_at.Given as goal

abbrev pub invariant-loop-decl : goal.invariant-loop-decl
invariant-loop-decl l =
    field_at l.program l.class l.name ≡
    find (is_lowest l.program (keys_above l.program l.class l.name l.program)) (keys_above l.program l.class l.name (drop l.decl-index l.program))
