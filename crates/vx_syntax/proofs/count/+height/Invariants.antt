use Rattle.std.proofs.Common.{◌≡◌, max, ◌<◌, ◌^◌, drop, map}
use Rattle.vx_syntax.specs.Counts.{capped, greatest, stmt_height, expr_height}
use Rattle.vx_syntax.proofs.count.+height.Given as goal

abbrev pub invariant-body_height-loop-stmt : goal.invariant-body_height-loop-stmt
invariant-body_height-loop-stmt l =
    (l.highest < 2 ^ 64) × (capped (max l.highest (greatest (map stmt_height (drop l.stmt-index l.stmt-items)))) ≡ capped (greatest (map stmt_height l.stmt-items)))

abbrev pub invariant-exprs_height-loop-expr : goal.invariant-exprs_height-loop-expr
invariant-exprs_height-loop-expr l =
    (l.highest < 2 ^ 64) × (capped (max l.highest (greatest (map expr_height (drop l.expr-index l.exprs)))) ≡ capped (greatest (map expr_height l.exprs)))

abbrev pub invariant-fields_height-loop-field : goal.invariant-fields_height-loop-field
invariant-fields_height-loop-field l =
    (l.highest < 2 ^ 64) × (capped (max l.highest (greatest (map (λ field. expr_height field.1) (drop l.field-index l.fields)))) ≡ capped (greatest (map (λ field. expr_height field.1) l.fields)))
