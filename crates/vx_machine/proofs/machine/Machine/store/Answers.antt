use Rattle.std.proofs.Common.{refl}
use Rattle.vx_machine.proofs.Views.{kept_of}
use Rattle.vx_machine.proofs.Steps.{store_done, store_lacks}
use Rattle.vx_machine.proofs.machine.Machine.store.Goals as goal

pub returns-else-not-set_local-clause-does : goal.returns-else-not-set_local-clause-does
returns-else-not-set_local-clause-does c = λ image all covers.
    let set = c.if-not-set_local.ensures.there refl in
    rw (← c.self.view_is, set.1) (store_done image all (kept_of c.self.inside) c.pop.new.self c.in-Some.word c.args.x c.in-Some.ensures set.0)

pub returns-then-not-set_local-clause-does : goal.returns-then-not-set_local-clause-does
returns-then-not-set_local-clause-does c = λ image all covers.
    let missing = c.if-not-set_local.ensures.missing refl in
    rw (← c.self.view_is) (store_lacks image all (kept_of c.self.inside) c.pop.new.self c.in-Some.word c.args.x c.in-Some.ensures missing.0)
