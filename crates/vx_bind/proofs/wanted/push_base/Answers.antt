use Rattle.std.proofs.Common.{◌∙◌, ◌++◌, [], ap, sym, append-nil}
use Rattle.vx_answers.specs.SendRows.{with_base}
use Rattle.vx_bind.proofs.wanted.push_base.Goals as goal

pub returns-in-None : goal.returns-in-None
returns-in-None c =
    sym (ap (λ base. c.args.names.now ++ with_base base []) (sym c.in-None.ensures) ∙ append-nil c.args.names.now)
