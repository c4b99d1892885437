use Rattle.std.proofs.Common.{◌≡◌, ℕ, ◌+◌, take, sum_by}
use Rattle.vx_syntax.specs.Counts.{capped}
use Rattle.vx_program.specs.Program.{methods_made}
use Rattle.vx_program.proofs.counts.counted.Given as goal

abbrev pub invariant-loop-decl : goal.invariant-loop-decl
invariant-loop-decl l =
    (n : ℕ) → l.fn.count ≡ capped n → l.count ≡ capped (sum_by (methods_made l.selector) (take l.decl-index l.decls) + n)
