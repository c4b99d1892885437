use Rattle.std.proofs.Common.{◌≡◌, ◌++◌, drop, map}
use Rattle.vx_model.specs.Values.{fresh_slots, start_value}
use Rattle.vx_model.proofs.objects.fresh.Given as goal

abbrev pub invariant-loop-field : goal.invariant-loop-field
invariant-loop-field l =
    l.slots ++ map (λ field. (field.0, start_value l.program field.1)) (drop l.field-index l.field-items) ≡ fresh_slots l.program l.class
