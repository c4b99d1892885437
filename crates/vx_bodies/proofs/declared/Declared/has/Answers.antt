use Rattle.std.proofs.Common.{arith, ◌∙◌}
use Rattle.vx_bodies.proofs.Index.{listed_some, listed_none}
use Rattle.vx_bodies.proofs.declared.Declared.has.Goals as goal

pub returns-then-may_change : goal.returns-then-may_change
returns-then-may_change c =
    let l = listed_some c.args.variable c.self.inside.names c.args.x.now c.in-Some.may_change.now (c.in-Some.ensures.value ∙ c.self.invariant c.args.x.now) in
    let view = c.self.view_is in
    let is = c.if-may_change.true in
    grind arith

pub returns-else-may_change : goal.returns-else-may_change
returns-else-may_change c =
    let l = listed_some c.args.variable c.self.inside.names c.args.x.now c.in-Some.may_change.now (c.in-Some.ensures.value ∙ c.self.invariant c.args.x.now) in
    let view = c.self.view_is in
    let is = c.if-may_change.false in
    grind arith

pub returns-in-None : goal.returns-in-None
returns-in-None c =
    let l = listed_none c.args.variable c.self.inside.names c.args.x.now (c.in-None.ensures.value ∙ c.self.invariant c.args.x.now) in
    let view = c.self.view_is in
    grind arith
