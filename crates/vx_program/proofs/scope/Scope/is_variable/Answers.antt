use Rattle.std.proofs.Common.{ap, ◌∙◌}
use Rattle.vx_syntax.specs.Expressions.{is_variable}
use Rattle.vx_program.proofs.Scopes.{variable_is}
use Rattle.vx_program.proofs.scope.Scope.is_variable.Goals as goal

pub returns : goal.returns
returns c =
    rw c.as_slice.ensures.value at c.is_changeable.ensures ∙ variable_is c.self.inside.names.items c.args.x.now ∙ ap (λ s. is_variable s c.args.x.now) c.self.view_is
