use Rattle.std.proofs.Common.{true, sym, subst}
use Rattle.std.specs.BTreeSet.{Updates}
use Rattle.std.specs.Cmp.Lexicographic.{slice_cmp}
use Rattle.std.specs.Ordering.{nat_cmp}
use Rattle.vx_syntax.specs.Expressions.{field_names}
use Rattle.vx_bodies.specs.Scopes.{HasNames}
use Rattle.vx_bodies.proofs.FieldNames.{named_more}
use Rattle.vx_bodies.proofs.fields.Fields.with.Goals as goal

pub invariant_of-result : goal.invariant_of-result
invariant_of-result c =
    let updates = subst (λ key. Updates (slice_cmp nat_cmp) c.self.inside.names c.insert.new.self key true) c.in_ok-copy.ensures c.in_ok-insert.ensures.updates in
    subst (λ given. HasNames c.insert.new.self (field_names given)) (sym c.in_ok-push.ensures.ok)
    (named_more c.self.inside.names c.insert.new.self c.self.inside.given c.args.field c.args.a c.self.invariant updates)
