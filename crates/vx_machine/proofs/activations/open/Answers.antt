use Rattle.std.proofs.Common.{rules, arith, ◌≡◌, ◌≤◌, ◌+◌, length, vec_len, ◌∙◌, take, map}
use Rattle.vx_machine.specs.declared.word.Local.TheVariants.{Plain}
use Rattle.vx_machine.proofs.Stack.{extends_captures, extends_resized}
use Rattle.vx_machine.proofs.activations.open.Goals as goal

pub returns-in_err-push-2-clause-extends : goal.returns-in_err-push-2-clause-extends
returns-in_err-push-2-clause-extends c = extends_captures c.args.locals.now.items c.args.captures.now
    (map (λ word. Plain word) (take c.loop-word.word-index c.args.arguments.now)) c.push-in-loop-word.new.self.items
    (c.in_err-push-2.ensures.items ∙ c.loop-word.invariant)

pub returns-clause-extends : goal.returns-clause-extends
returns-clause-extends c =
    let sizes : vec_len c.loop-word.locals ≡ length c.loop-word.locals.items = search rules in
    let enough : length c.loop-word.locals.items ≤ c.len.result + c.saturating_sub-rest.result = omega (arith, sizes, c.len.ensures) in
    extends_resized c.args.locals.now.items c.args.captures.now (map (λ word. Plain word) (take c.loop-word.word-index c.args.arguments.now)) _
    c.loop-word.locals.items c.resize.new.self.items (c.len.result + c.saturating_sub-rest.result) c.loop-word.invariant enough c.in_ok-resize.ensures.items
