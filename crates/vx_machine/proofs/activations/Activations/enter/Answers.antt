use Rattle.std.proofs.Common.{rules, arith, refl, ap, ◌∙◌, [], length-drop, ◌≡◌, ◌≤◌, ◌+◌, ◌-◌, ◌∷◌, ◌++◌, length, vec_len, reverse, take, drop}
use Rattle.std.proofs.lemmas.List.{reverse-append, length-reverse}
use Rattle.vx_machine.specs.Cuts.{opened}
use Rattle.vx_machine.proofs.Stack.{enters}
use Rattle.vx_machine.proofs.activations.Activations.enter.Goals as goal

pub returns-in-Ok-clause-ok : goal.returns-in-Ok-clause-ok
returns-in-Ok-clause-ok c =
    let sizes : vec_len c.self.inside.operands ≡ length c.self.inside.operands.items = search rules in
    let count : c.len.result ≡ length c.self.inside.operands.items = search rules in
    let base : c.len-base.result ≡ length c.self.inside.locals.items = search rules in
    let waiting : reverse c.push.new.self.items ≡ c.self.inside.running ∷ reverse c.self.inside.below.items =
    ap reverse c.in_ok-push.ensures.items ∙ reverse-append c.self.inside.below.items (c.self.inside.running ∷ []) in
    let code : c.as_slice.result.now ≡ c.args.block.now.code = search rules in
    let arguments : c.split_at.result.1.now ≡ drop (length c.self.inside.operands.items - c.args.count) c.self.inside.operands.items = search rules in
    let locals : c.open.new.locals.items
    ≡ c.self.inside.locals.items ++ opened c.args.block.now.locals c.args.captures.now
    (drop (length c.self.inside.operands.items - c.args.count) c.self.inside.operands.items) =
    rw arguments at c.in-Ok.ensures.ok in
    let operands : c.truncate.new.self.items ≡ take (length c.self.inside.operands.items - c.args.count - c.args.under) c.self.inside.operands.items =
    search rules in
    let enough : c.args.count + c.args.under ≤ length c.self.inside.operands.items - c.self.inside.running.floor =
    omega (
      arith,
      rw (← c.self.view_is) at c.requires.operands,
      length-reverse (drop c.self.inside.running.floor c.self.inside.operands.items),
      length-drop c.self.inside.running.floor c.self.inside.operands.items,
    ) in
    rw (← c.self.view_is, waiting, locals, operands, base, count)
    (enters c.self.inside.running (record {
      instrs = c.as_slice.result;
      next = 0;
      code = c.args.code;
      base = length c.self.inside.locals.items;
      floor =
          length c.self.inside.operands.items - c.args.count - c.args.under;
      role = c.args.role;
    })
    (reverse c.self.inside.below.items) c.self.inside.locals.items c.self.inside.operands.items c.args.block.now c.args.captures.now
    c.args.count c.args.under c.self.invariant enough refl code)
