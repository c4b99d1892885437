use Rattle.std.proofs.Common.{◌≡◌, map, take}
use Rattle.vx_image.specs.Parts.{step_bytes}
use Rattle.vx_image.proofs.kept.forms_of.Given as goal

abbrev pub invariant-loop-test : goal.invariant-loop-test
invariant-loop-test l = l.forms ≡ map step_bytes (take l.test-index l.tests)
