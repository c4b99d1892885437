use Rattle.std.proofs.Common.{arith, ◌∙◌, sym, subst, take}
use Rattle.std.proofs.lemmas.Bool.{false≢true}
use Rattle.std.proofs.lemmas.List.{drop_all}
use Rattle.vx_lists.proofs.Rests.{all_at}
use Rattle.vx_syntax.specs.Expressions.{field_names}
use Rattle.vx_syntax.specs.Written.{AreStated, IsWritten}
use Rattle.vx_program.proofs.Trees.{sends, closes, makes, AllWritten, AllFields}
use Rattle.vx_program.proofs.Steps.{decided_no, decided_yes, fields_at, stated_more, brings_inside, formals_inside, outside}
use Rattle.vx_program.proofs.written.+written.Goals as goal
use Rattle.vx_program.proofs.written.+written.Goals.{is_body_written-else-is_back-via-then-is_back+else-place-body, is_body_written-else-is_back-via-else-is_back, is_new_written-then-not-is_field_name-via-then-not-is_field_name, is_new_written-then-not-is_field_name-via-else-not-is_field_name+then-is_field}

pub is_body_written-loop-place-preserved : goal.is_body_written-loop-place-preserved
is_body_written-loop-place-preserved t c =
    let after = c.in_ok-is_stmt_written.ensures.brings c.if-not-branch.false in (
      stated_more c.args.body.now c.loop-place.place c.index-body-place.result c.args.scope.now c.loop-place.scope c.is_stmt_written.new.scope c.loop-place-test.true
          c.index-body-place.is c.loop-place.invariant.0 (c.in_ok-is_stmt_written.ensures.decides.0 c.if-not-branch.false)
          (λ back. elim c.else-is_back.branch [
            | is_body_written-else-is_back-via-then-is_back+else-place-body w ↦ omega arith
            | is_body_written-else-is_back-via-else-is_back w ↦ absurd (false≢true (sym w.if-is_back.false ∙ c.is_back.ensures ∙ back))
          ]) after,
      brings_inside c.index-body-place.result c.args.scope.now c.loop-place.scope c.is_stmt_written.new.scope c.loop-place.invariant.1 after,
    )

pub is_closure_written-returns-then-not-branch-2-clause-decides :
    goal.is_closure_written-returns-then-not-branch-2-clause-decides
is_closure_written-returns-then-not-branch-2-clause-decides t c = decided_no (λ h.
    let p = (closes c.args.formals.now c.args.body.now.0 c.args.scope.now).0 h in
    let inside = subst (λ s. AreStated c.args.body.now.0 s) (sym (c.in_ok-are_new.ensures.scope c.if-not-branch.false)) p.2 in
    let yes = c.in_ok-is_body_written.ensures.decides.1 (subst (λ l. AreStated l c.are_new.new.scope) (sym c.as_slice.ensures) inside) in
    false≢true (sym c.if-not-branch-2.true ∙ yes))

pub is_closure_written-returns-clause-decides : goal.is_closure_written-returns-clause-decides
is_closure_written-returns-clause-decides t c =
    let inside = subst (λ l. AreStated l c.are_new.new.scope) c.as_slice.ensures (c.in_ok-is_body_written.ensures.decides.0 c.if-not-branch-2.false) in
    decided_yes ((closes c.args.formals.now c.args.body.now.0 c.args.scope.now).1 (
      c.in_ok-are_new.ensures.decides.0 c.if-not-branch.false,
      omega arith,
      subst (λ s. AreStated c.args.body.now.0 s) (c.in_ok-are_new.ensures.scope c.if-not-branch.false) inside,
    ))

pub is_closure_written-returns-clause-scope : goal.is_closure_written-returns-clause-scope
is_closure_written-returns-clause-scope t c e =
    let is = c.in_ok-is_body_written.ensures.scope c.if-not-branch-2.false ∙ c.in_ok-are_new.ensures.scope c.if-not-branch.false in
    let inside = formals_inside c.args.formals.now c.args.scope.now in
    c.leave.ensures ∙ outside c.args.scope.now c.is_body_written.new.scope c.len-len.result (inside.0, is ∙ inside.1) c.len-len.ensures

pub is_new_written-returns-then-not-is_field_name-clause-decides :
    goal.is_new_written-returns-then-not-is_field_name-clause-decides
is_new_written-returns-then-not-is_field_name-clause-decides t c = decided_no (λ h.
    let p = fields_at c.args.fields.now c.loop-place.place c.index-fields-place.result _ c.args.scope.now c.loop-place-test.true c.index-fields-place.is
    (c.loop-place.invariant.0.0 ((makes c.args.x.now c.args.fields.now c.args.scope.now).0 h).1) in
    elim c.then-not-is_field_name.branch [
      | is_new_written-then-not-is_field_name-via-then-not-is_field_name w ↦ false≢true (sym w.if-not-is_field_name.true ∙ c.is_field_name.ensures.1 (p.0, p.1))
      | is_new_written-then-not-is_field_name-via-else-not-is_field_name+then-is_field w ↦ false≢true (sym p.2 ∙ sym w.is_field.ensures ∙ w.if-is_field.true)
    ])

pub is_new_written-returns-then-not-branch-clause-decides :
    goal.is_new_written-returns-then-not-branch-clause-decides
is_new_written-returns-then-not-branch-clause-decides t c = decided_no (λ h.
    let p = fields_at c.args.fields.now c.loop-place.place c.index-fields-place.result _ c.args.scope.now c.loop-place-test.true c.index-fields-place.is
    (c.loop-place.invariant.0.0 ((makes c.args.x.now c.args.fields.now c.args.scope.now).0 h).1) in
    false≢true (sym c.if-not-branch.true ∙ c.in_ok-is_expr_written.ensures.decides.1 (subst (λ s. IsWritten c.index-fields-place.result.1 s) (sym c.loop-place.invariant.1) p.3)))

pub is_new_written-returns-clause-decides : goal.is_new_written-returns-clause-decides
is_new_written-returns-clause-decides t c =
    let none = drop_all c.loop-place.place c.args.fields.now c.loop-place-test.false in
    decided_yes ((makes c.args.x.now c.args.fields.now c.args.scope.now).1 (
      c.is_word.ensures.0 c.if-not-is_word.false,
      c.loop-place.invariant.0.1 (subst (λ l. AllFields l (field_names (take c.loop-place.place c.args.fields.now)) c.args.scope.now) (sym none) tt),
    ))

pub is_send_written-returns-then-not-is_selector-clause-decides :
    goal.is_send_written-returns-then-not-is_selector-clause-decides
is_send_written-returns-then-not-is_selector-clause-decides t c = decided_no (λ h.
    let p = (sends c.args.selector.now c.args.arguments.now c.args.scope.now).0 h in
    false≢true (sym c.if-not-is_selector.true ∙ c.is_selector.ensures.1 (p.0, p.1)))

pub is_send_written-returns-then-not-branch-clause-decides :
    goal.is_send_written-returns-then-not-branch-clause-decides
is_send_written-returns-then-not-branch-clause-decides t c = decided_no (λ h.
    let p = (sends c.args.selector.now c.args.arguments.now c.args.scope.now).0 h in
    let one = all_at (λ a. IsWritten a c.args.scope.now) c.args.arguments.now c.loop-argument.argument-index c.argument-item.result c.loop-argument-test.true c.argument-item.is
    (c.loop-argument.invariant.0.0 p.2) in
    false≢true (sym c.if-not-branch.true ∙ c.in_ok-is_expr_written.ensures.decides.1 (subst (λ s. IsWritten c.argument-item.result s) (sym c.loop-argument.invariant.1) one)))

pub is_send_written-returns-clause-decides : goal.is_send_written-returns-clause-decides
is_send_written-returns-clause-decides t c =
    let none = drop_all c.loop-argument.argument-index c.args.arguments.now c.loop-argument-test.false in
    let p = c.is_selector.ensures.0 c.if-not-is_selector.false in
    decided_yes ((sends c.args.selector.now c.args.arguments.now c.args.scope.now).1 (
      p.0,
      p.1,
      c.loop-argument.invariant.0.1 (subst (AllWritten c.args.scope.now) (sym none) tt),
    ))
