use Rattle.std.proofs.Common.{◌≡◌, ◌++◌, drop}
use Rattle.vx_program.specs.Methods.{with_selector}
use Rattle.vx_program.proofs.reserved.Reserved.push_methods.Given as goal

abbrev pub invariant-loop-key : goal.invariant-loop-key
invariant-loop-key l = l.keys ++ with_selector l.selector (drop l.key-index l.key-items) ≡ l.initial.keys ++ with_selector l.selector l.key-items
