use Rattle.std.proofs.Common.{◌≡◌, ◌++◌, drop}
use Rattle.vx_answers.specs.SendRows.{info_objects}
use Rattle.vx_bind.proofs.wanted.info_objects.Given as goal

abbrev pub invariant-loop-info : goal.invariant-loop-info
invariant-loop-info l = l.names ++ info_objects (drop l.info-index l.infos) ≡ info_objects l.infos
