use Rattle.std.proofs.Common.{◌≡◌, ◌||◌, Some, sym, subst}
use Rattle.std.specs.BTreeMap.{Updates}
use Rattle.std.specs.Cmp.Lexicographic.{slice_cmp}
use Rattle.std.specs.Ordering.{nat_cmp}
use Rattle.vx_syntax.specs.Expressions.{is_variable}
use Rattle.vx_bodies.specs.Scopes.{IsIndex}
use Rattle.vx_bodies.proofs.Index.{indexed_more}
use Rattle.vx_bodies.proofs.declared.Declared.with.Goals as goal

pub invariant_of-result : goal.invariant_of-result
invariant_of-result c =
    let flag = c.may_change_with-may_change.result in
    let is = subst (λ names. flag ≡ (c.args.variable || is_variable names c.args.x)) (sym c.self.view_is) c.may_change_with-may_change.ensures in
    let updates = subst (λ key. Updates (slice_cmp nat_cmp) c.self.inside.index c.insert.new.self key (Some flag)) c.in_ok-copy.ensures c.in_ok-insert.ensures.updates in
    subst (λ names. IsIndex c.insert.new.self names) (sym c.in_ok-push.ensures)
    (indexed_more c.self.inside.index c.insert.new.self c.self.inside.names c.args.x c.args.variable flag c.self.invariant is updates)
