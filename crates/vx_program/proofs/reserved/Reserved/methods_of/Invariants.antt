use Rattle.std.proofs.Common.{◌≡◌, take, count_by}
use Rattle.vx_syntax.specs.Counts.{capped}
use Rattle.vx_program.specs.Program.{is_method_of}
use Rattle.vx_program.proofs.reserved.Reserved.methods_of.Given as goal

abbrev pub invariant-loop-key : goal.invariant-loop-key
invariant-loop-key l = l.count ≡ capped (count_by (is_method_of l.selector) (take l.key-index l.key-items))
