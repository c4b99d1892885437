use Rattle.std.proofs.Common.{◌≡◌, ◌++◌, drop}
use Rattle.vx_model.specs.Fields.{fields_within, slots}
use Rattle.vx_model.proofs.field.slots.Given as goal

abbrev pub invariant-loop-decl : goal.invariant-loop-decl
invariant-loop-decl l = l.slots ++ fields_within l.program l.class (drop l.decl-index l.program) ≡ slots l.program l.class
