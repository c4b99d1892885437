use Rattle.std.proofs.Common.{rules, arith, ◌≡◌, ◌≤◌, ◌-◌, length, length-drop, reverse, drop, take}
use Rattle.std.proofs.lemmas.List.{length-reverse}
use Rattle.vx_machine.proofs.Stack.{forgets}
use Rattle.vx_machine.proofs.activations.Activations.forget.Goals as goal

pub returns : goal.returns
returns c =
    let count : c.len.result ≡ length c.self.inside.operands.items = search rules in
    let operands : c.truncate.new.self.items ≡ take (length c.self.inside.operands.items - c.args.count) c.self.inside.operands.items = search rules in
    let enough : c.args.count ≤ length c.self.inside.operands.items - c.self.inside.running.floor =
    omega (
      arith,
      rw (← c.self.view_is) at c.requires,
      length-reverse (drop c.self.inside.running.floor c.self.inside.operands.items),
      length-drop c.self.inside.running.floor c.self.inside.operands.items,
    ) in
    rw (← c.self.view_is, operands)
    (forgets c.self.inside.running (reverse c.self.inside.below.items) c.self.inside.locals.items c.self.inside.operands.items c.args.count c.self.invariant.1
    enough)
