use Rattle.std.proofs.Common.{◌≡◌, ◌+◌, ◌<◌, ◌^◌, drop, map}
use Rattle.std.specs.Prelude.{sum}
use Rattle.vx_syntax.specs.Counts.{capped, stmt_locals, expr_locals}
use Rattle.vx_syntax.proofs.count.+locals.Given as goal

abbrev pub invariant-body_locals-loop-stmt : goal.invariant-body_locals-loop-stmt
invariant-body_locals-loop-stmt l =
    (l.total < 2 ^ 64) × (capped (l.total + sum (map stmt_locals (drop l.stmt-index l.stmt-items))) ≡ capped (sum (map stmt_locals l.stmt-items)))

abbrev pub invariant-exprs_locals-loop-expr : goal.invariant-exprs_locals-loop-expr
invariant-exprs_locals-loop-expr l =
    (l.total < 2 ^ 64) × (capped (l.total + sum (map expr_locals (drop l.expr-index l.exprs))) ≡ capped (sum (map expr_locals l.exprs)))

abbrev pub invariant-fields_locals-loop-field : goal.invariant-fields_locals-loop-field
invariant-fields_locals-loop-field l =
    (l.total < 2 ^ 64) × (capped (l.total + sum (map (λ field. expr_locals field.1) (drop l.field-index l.fields))) ≡ capped (sum (map (λ field. expr_locals field.1) l.fields)))
