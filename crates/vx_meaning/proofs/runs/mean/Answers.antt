use Rattle.std.proofs.Common.{◌∙◌, sym}
use Rattle.std.proofs.lemmas.Result.{IfOk-weaker}
use Rattle.vx_meaning.proofs.runs.mean.Goals as goal

pub returns-clause-never_stuck : goal.returns-clause-never_stuck
returns-clause-never_stuck c =
    IfOk-weaker c.evaluated.result _ _ (λ report meant lines stuck.
    c.meanings_are_never_stuck.ensures c.args.program.now c.args.f lines c.declarations.ensures.program (sym meant ∙ stuck)) c.evaluated.ensures
