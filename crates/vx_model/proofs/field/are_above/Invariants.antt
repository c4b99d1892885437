use Rattle.std.proofs.Common.{◌≡◌, ◌||◌, not, drop}
use Rattle.std.specs.List.{list_all}
use Rattle.vx_program.specs.Program.{leads}
use Rattle.vx_model.specs.Order.{plain_names}
use Rattle.vx_model.proofs.field.are_above.Given as goal

abbrev pub invariant-loop-decl : goal.invariant-loop-decl
invariant-loop-decl l =
    list_all (λ plain. not (leads l.program l.x plain) || leads l.program l.class.1 plain) (plain_names l.program) ≡
    list_all (λ plain. not (leads l.program l.x plain) || leads l.program l.class.1 plain) (plain_names (drop l.decl-index l.program))
