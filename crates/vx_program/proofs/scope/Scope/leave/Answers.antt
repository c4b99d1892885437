use Rattle.std.proofs.Common.{◌-◌, length, drop, ap, ◌∙◌}
use Rattle.vx_program.proofs.Scopes.{scope_of, left_is}
use Rattle.vx_program.proofs.scope.Scope.leave.Goals as goal

pub returns : goal.returns
returns c =
    ap scope_of c.truncate.ensures.items ∙ left_is c.self.inside.names.items c.args.len ∙ ap (λ s. drop (length s - c.args.len) s) c.self.view_is
