use Rattle.std.proofs.Common.{◌≡◌, drop}
use Rattle.std.specs.List.{list_all}
use Rattle.vx_program.specs.Program.{is_name_of}
use Rattle.vx_fields.proofs.joining.are_met.Given as goal

abbrev pub invariant-loop-parent : goal.invariant-loop-parent
invariant-loop-parent l = list_all (is_name_of l.met) l.parents ≡ list_all (is_name_of l.met) (drop l.parent-index l.parents)
