use Rattle.std.proofs.Common.{rules}
use Rattle.vx_program.proofs.FieldKeys.{setter_by}
use Rattle.vx_program.proofs.occupied.setter_of.Goals as goal

pub returns : goal.returns
returns c = setter_by c.args.key.now c.args.selector c.push-2.new.self c.requires (search rules)
