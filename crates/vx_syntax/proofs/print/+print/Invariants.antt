use Rattle.std.proofs.Common.{◌≡◌, ◌++◌, codes, drop, map}
use Rattle.vx_syntax.specs.Print.{joined, listed, field_text, expr_text, stmt_text}
use Rattle.vx_syntax.proofs.print.+print.Given as goal

abbrev pub invariant-append_body-loop-stmt : goal.invariant-append_body-loop-stmt
invariant-append_body-loop-stmt l =
    l.text.items ++ joined l.lead (codes "; ") (map stmt_text (drop l.stmt-index l.stmt-items))
    ≡ l.initial.text.items ++ joined (codes " ") (codes "; ") (map stmt_text l.stmt-items)

abbrev pub invariant-append_arguments-loop-argument : goal.invariant-append_arguments-loop-argument
invariant-append_arguments-loop-argument l =
    l.text.items ++ joined l.lead (codes ", ") (map expr_text (drop l.argument-index l.arguments))
    ≡ l.initial.text.items ++ listed (map expr_text l.arguments)

abbrev pub invariant-append_fields-loop-field : goal.invariant-append_fields-loop-field
invariant-append_fields-loop-field l =
    l.text.items ++ joined l.lead (codes ", ") (map (λ field. field_text (field.0, expr_text field.1)) (drop l.field-index l.fields))
    ≡ l.initial.text.items ++ joined (codes " ") (codes ", ") (map (λ field. field_text (field.0, expr_text field.1)) l.fields)
