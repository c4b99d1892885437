use Rattle.std.proofs.Common.{◌≡◌, drop}
use Rattle.vx_program.specs.Program.{is_name_of}
use Rattle.vx_walks.proofs.names.is_one.Given as goal

abbrev pub invariant-loop-name : goal.invariant-loop-name
invariant-loop-name l = is_name_of l.names l.x ≡ is_name_of (drop l.name-index l.names) l.x
