use Rattle.std.proofs.Common.{codes, sym, ap, ◌∙◌, ◌++◌}
use Rattle.vx_syntax.specs.Print.{expr_text}
use Rattle.vx_syntax.proofs.Texts.{infix_of_two, regrouped, text_of_resend}
use Rattle.vx_syntax.proofs.print.+print.Goals as goal

pub append_expr-returns-in_ok-extend_from_slice-in-Resend : goal.append_expr-returns-in_ok-extend_from_slice-in-Resend
append_expr-returns-in_ok-extend_from_slice-in-Resend t c =
    c.in_ok-extend_from_slice-in-Resend.ensures.items ∙ ap (λ text. c.args.text.now.items ++ text) (sym (ap expr_text c.in-Resend.is ∙ text_of_resend))

pub append_send-returns-in_ok-push-in-len2-2 : goal.append_send-returns-in_ok-push-in-len2-2
append_send-returns-in_ok-push-in-len2-2 t c =
    let two = infix_of_two c.args.name.now c.args.arguments.now c.a-item.result c.b-item.result c.in-len2.len_at_least c.in-len2.len_below
    c.a-item.is c.b-item.is (sym c.is_sign.ensures ∙ c.if-is_sign.true) in
    let written = regrouped c.args.text.now.items (codes "(") (expr_text c.a-item.result) (codes " ") c.args.name.now (expr_text c.b-item.result) (codes ")") in
    rw (
      c.in_ok-push-in-len2-2.ensures.items,
      c.in_ok-append_expr-in-len2-2.ensures,
      c.in_ok-append_sign-in-len2.ensures,
      c.in_ok-append_expr-in-len2.ensures,
      c.in_ok-push-in-len2.ensures.items,
      two,
    ) written
