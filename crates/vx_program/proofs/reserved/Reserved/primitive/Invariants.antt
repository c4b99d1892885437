use Rattle.std.proofs.Common.{◌≡◌, drop}
use Rattle.std.specs.List.{position_from}
use Rattle.vx_program.specs.Prelude.{same_key}
use Rattle.vx_program.proofs.reserved.Reserved.primitive.Given as goal

abbrev pub invariant-loop-number : goal.invariant-loop-number
invariant-loop-number l =
    position_from (λ one. same_key one l.key) 0 l.one-items ≡ position_from (λ one. same_key one l.key) l.number (drop l.number l.one-items)
