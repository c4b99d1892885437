use Rattle.std.proofs.Common.{◌≡◌, ◌+◌, ◌<◌, ◌^◌, drop, map}
use Rattle.std.specs.Prelude.{sum}
use Rattle.vx_syntax.specs.Counts.{capped, stmt_size, expr_size}
use Rattle.vx_syntax.proofs.count.+size.Given as goal

abbrev pub invariant-body_size-loop-stmt : goal.invariant-body_size-loop-stmt
invariant-body_size-loop-stmt l =
    (l.total < 2 ^ 64) × (capped (l.total + sum (map stmt_size (drop l.stmt-index l.stmt-items))) ≡ capped (sum (map stmt_size l.stmt-items)))

abbrev pub invariant-exprs_size-loop-expr : goal.invariant-exprs_size-loop-expr
invariant-exprs_size-loop-expr l =
    (l.total < 2 ^ 64) × (capped (l.total + sum (map expr_size (drop l.expr-index l.exprs))) ≡ capped (sum (map expr_size l.exprs)))

abbrev pub invariant-fields_size-loop-field : goal.invariant-fields_size-loop-field
invariant-fields_size-loop-field l =
    (l.total < 2 ^ 64) × (capped (l.total + sum (map (λ field. expr_size field.1) (drop l.field-index l.fields))) ≡ capped (sum (map (λ field. expr_size field.1) l.fields)))
