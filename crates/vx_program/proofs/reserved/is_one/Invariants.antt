use Rattle.std.proofs.Common.{◌≡◌, drop}
use Rattle.vx_program.specs.Prelude.{is_one}
use Rattle.vx_program.proofs.reserved.is_one.Given as goal

abbrev pub invariant-loop-one : goal.invariant-loop-one
invariant-loop-one l = is_one l.keys l.key ≡ is_one (drop l.one-index l.keys) l.key
