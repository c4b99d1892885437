use Rattle.std.proofs.Common.{ap, ◌∙◌}
use Rattle.std.specs.Option.{is_some}
use Rattle.vx_image.proofs.Named.{operator_found}
use Rattle.vx_image.proofs.names.is_operator.Goals as goal

pub returns : goal.returns
returns c = c.is_some.ensures ∙ ap is_some c.from_bytes.ensures ∙ operator_found c.args.bytes.now
