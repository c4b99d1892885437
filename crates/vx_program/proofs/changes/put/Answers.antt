use Rattle.std.proofs.Common.{Some, None, sym, ap, ◌∙◌, subst}
use Rattle.vx_syntax.specs.Keys.{key_of}
use Rattle.vx_program.specs.Lookups.{IsFoundOrNot, before_put}
use Rattle.vx_program.proofs.Orders.{put_refused}
use Rattle.vx_program.proofs.InPlace.{put_found}
use Rattle.vx_program.proofs.changes.put.Goals as goal

pub returns-in-Some-clause-fault : goal.returns-in-Some-clause-fault
returns-in-Some-clause-fault c =
    put_refused c.args.decls.now.items c.args.decl.now c.in-Some.fault
    (sym c.in-Some.is ∙ c.in_ok-fault.ensures ∙ ap (λ ds. before_put ds c.args.decl.now) c.as_slice.ensures.value)

pub put_at-requires-clause-found : goal.put_at-requires-clause-found
put_at-requires-clause-found c =
    let key = key_of c.args.decl.now in
    let found = subst (IsFoundOrNot c.as_slice-2.result.now key) c.in-Some-2.is c.in_ok-place.ensures in
    subst (λ ds. IsFoundOrNot ds key (Some c.in-Some-2.place)) c.as_slice-2.ensures.value found

pub put_at-requires-clause-clean : goal.put_at-requires-clause-clean
put_at-requires-clause-clean c =
    sym (sym c.in_default.is ∙ c.in_ok-fault.ensures ∙ ap (λ ds. before_put ds c.args.decl.now) c.as_slice.ensures.value)

pub returns-in_ok-key-in-None-clause-fault : goal.returns-in_ok-key-in-None-clause-fault
returns-in_ok-key-in-None-clause-fault c =
    let new = c.args.decl.now in
    let none = subst (IsFoundOrNot c.as_slice-2.result.now (key_of new)) c.in-None.is c.in_ok-place.ensures in
    absurd (put_found c.args.decls.now.items new
    (sym c.in_default.is ∙ c.in_ok-fault.ensures ∙ ap (λ ds. before_put ds new) c.as_slice.ensures.value)
    (subst (λ ds. IsFoundOrNot ds (key_of new) None) c.as_slice-2.ensures.value none))
