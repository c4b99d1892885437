use Rattle.std.proofs.Common.{◌≡◌, take, length}
use Rattle.vx_facts.proofs.same.+same.Given as goal

abbrev pub invariant-same_stmts-loop-place : goal.invariant-same_stmts-loop-place
invariant-same_stmts-loop-place l = (length l.a ≡ length l.b) × (take l.place l.a ≡ take l.place l.b)

abbrev pub invariant-same_exprs-loop-place : goal.invariant-same_exprs-loop-place
invariant-same_exprs-loop-place l = (length l.a ≡ length l.b) × (take l.place l.a ≡ take l.place l.b)

abbrev pub invariant-same_fields-loop-place : goal.invariant-same_fields-loop-place
invariant-same_fields-loop-place l = (length l.a ≡ length l.b) × (take l.place l.a ≡ take l.place l.b)
