use Rattle.std.proofs.Common.{◌≡◌, drop}
use Rattle.vx_program.specs.Program.{is_name_of}
use Rattle.vx_model.specs.Order.{plain_names}
use Rattle.vx_model.proofs.objects.is_plain_name.Given as goal

abbrev pub invariant-loop-decl : goal.invariant-loop-decl
invariant-loop-decl l = is_name_of (plain_names l.program) l.x ≡ is_name_of (plain_names (drop l.decl-index l.program)) l.x
