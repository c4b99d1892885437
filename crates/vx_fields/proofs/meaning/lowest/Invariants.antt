use Rattle.std.proofs.Common.{◌≡◌, drop}
use Rattle.vx_answers.specs.FieldRows.{lowest}
use Rattle.vx_fields.proofs.meaning.lowest.Given as goal

abbrev pub invariant-loop-one : goal.invariant-loop-one
invariant-loop-one l = lowest l.keys l.above ≡ lowest l.keys (drop l.one-index l.above)
