use Rattle.std.proofs.Common.{ap, ◌∙◌}
use Rattle.vx_syntax.specs.Expressions.{is_bound}
use Rattle.vx_program.proofs.Scopes.{bound_is}
use Rattle.vx_program.proofs.scope.Scope.is_bound.Goals as goal

pub returns : goal.returns
returns c =
    rw c.as_slice.ensures.value at c.is_listed.ensures ∙ bound_is c.self.inside.names.items c.args.x.now ∙ ap (λ s. is_bound s c.args.x.now) c.self.view_is
