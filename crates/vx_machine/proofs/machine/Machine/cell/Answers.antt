use Rattle.std.proofs.Common.{refl, rules, ◌≡◌, length}
use Rattle.vx_machine.proofs.Views.{kept_of}
use Rattle.vx_machine.proofs.Steps.{cell_made, cell_lacks}
use Rattle.vx_machine.proofs.machine.Machine.cell.Goals as goal

pub returns-in_ok-push-in-Some-clause-does : goal.returns-in_ok-push-in-Some-clause-does
returns-in_ok-push-in-Some-clause-does c = λ image all covers.
    let set = c.if-not-set_local.ensures.there refl in
    let size : c.len-place.result ≡ length c.self.inside.cells.items = search rules in
    rw (← c.self.view_is, set.1, c.in_ok-push-in-Some.ensures.items, size)
    (cell_made image all (kept_of c.self.inside) c.pop.new.self c.in-Some.word c.args.x c.in-Some.ensures set.0)

pub returns-then-not-set_local-clause-does : goal.returns-then-not-set_local-clause-does
returns-then-not-set_local-clause-does c = λ image all covers.
    let missing = c.if-not-set_local.ensures.missing refl in
    rw (← c.self.view_is) (cell_lacks image all (kept_of c.self.inside) c.pop.new.self c.in-Some.word c.args.x c.in-Some.ensures missing.0)
