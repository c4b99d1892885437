use Rattle.std.proofs.Common.{◌≡◌, ◌<◌, ◌-◌, reverse, length, vec_len, arith, rules}
use Rattle.vx_machine.proofs.Stack.{local_there}
use Rattle.vx_machine.proofs.activations.Activations.set_local.Goals as goal

pub returns-clause-there : goal.returns-clause-there
returns-clause-there c = λ h.
    let sizes : vec_len c.self.inside.locals ≡ length c.self.inside.locals.items = search rules in
    let lt : c.args.x < length c.self.inside.locals.items - c.self.inside.running.base = omega (arith, sizes) in
    rw (← c.self.view_is)
    (local_there c.self.inside.running
    (reverse c.self.inside.below.items) c.self.inside.locals.items c.self.inside.operands.items c.args.x c.args.held lt)
