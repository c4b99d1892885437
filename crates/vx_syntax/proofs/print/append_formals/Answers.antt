use Rattle.std.proofs.Common.{rules}
use Rattle.std.proofs.Math.Logic.{⊎_elim}
use Rattle.vx_syntax.proofs.Texts.{zip_of_none, zip_with_none}
use Rattle.vx_syntax.proofs.print.append_formals.Goals as goal

pub returns : goal.returns
returns c =
    let over = ⊎_elim (λ h. zip_of_none c.loop-formal.formal-iterator.a.rest.now c.loop-formal.formal-iterator.b.rest.now h.1.0)
    (λ h. zip_with_none c.loop-formal.formal-iterator.a.rest.now c.loop-formal.formal-iterator.b.rest.now h.1.0) c.in-None.ensures.steps in search rules
