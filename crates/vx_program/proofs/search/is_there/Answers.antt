use Rattle.std.proofs.Common.{ap, ◌∙◌}
use Rattle.vx_program.specs.Program.{is_there}
use Rattle.vx_program.proofs.Sought.{is_found}
use Rattle.vx_program.proofs.search.is_there.Goals as goal

pub returns : goal.returns
returns c =
    c.is_some.ensures ∙ is_found c.args.decls.now c.bytes.result.now c.position_of_name.result c.position_of_name.ensures.some c.position_of_name.ensures.none
    ∙ ap (is_there c.args.decls.now) c.bytes.ensures.bytes
