use Rattle.std.proofs.Common.{◌≡◌, ◌∙◌, sym, Some, None, refl}
use Rattle.std.specs.Prelude.{slice_get}
use Rattle.vx_machine.specs.Sending.{sent_of, target_of}
use Rattle.vx_machine.proofs.Sending.{leads_as, row_found}
use Rattle.vx_machine.proofs.machine.Machine.find.Goals as goal

pub returns-in_ok-not_understood-in-None-clause-does : goal.returns-in_ok-not_understood-in-None-clause-does
returns-in_ok-not_understood-in-None-clause-does c = λ all covers.
    rw (← c.in_ok-picked.ensures.picked all, c.in-None.is, ← c.in_ok-picked.ensures.same)
    (c.in_ok-not_understood-in-None.ensures c.args.ready.now c.args.table.now.arity all covers)

pub returns-in_ok-ambiguous-in-Many-clause-does : goal.returns-in_ok-ambiguous-in-Many-clause-does
returns-in_ok-ambiguous-in-Many-clause-does c = λ all covers.
    rw (← c.in_ok-picked.ensures.picked all, c.in-Many.is, ← c.in_ok-picked.ensures.same)
    (c.in_ok-ambiguous-in-Many.ensures c.args.ready.now c.args.table.now.arity all covers)

pub returns-in-None-at-clause-does : goal.returns-in-None-at-clause-does
returns-in-None-at-clause-does c = λ all covers.
    let none : slice_get c.args.table.now.rows c.in-Row.row ≡ None = rw c.as_slice.ensures at (sym c.in-None-at.ensures) in
    rw (← c.in_ok-picked.ensures.picked all, c.in-Row.is, none) refl

pub returns-in-Some-clause-does : goal.returns-in-Some-clause-does
returns-in-Some-clause-does c =
    let at : slice_get c.args.table.now.rows c.in-Row.row ≡ Some c.in-Some.row.now = rw c.as_slice.ensures at (sym c.in-Some.ensures) in
    leads_as c.args.ready.now (λ all. target_of c.args.ready.now c.args.table.now c.in-Some.row.now.does all c.args.table.now.arity c.picked.new.self)
    (sent_of c.args.ready.now c.args.table.now c.args.below c.args.self.now) c.args.table.now.arity c.lead.result c.args.self.now c.picked.new.self
    c.lead.new.self c.in_ok-picked.ensures.same
    (λ all. row_found c.args.ready.now c.args.table.now c.args.below c.args.self.now c.picked.new.self c.in-Row.row c.in-Some.row.now all
    c.in_ok-picked.ensures.same (sym c.in-Row.is ∙ c.in_ok-picked.ensures.picked all) at)
    c.lead.ensures.does

pub returns-in-Some-clause-later : goal.returns-in-Some-clause-later
returns-in-Some-clause-later c = λ all covers. rw (← c.in_ok-picked.ensures.same) (c.lead.ensures.later all covers)
