use Rattle.std.proofs.Common.{rules}
use Rattle.vx_program.proofs.FieldKeys.{setter_named_so}
use Rattle.vx_program.proofs.occupied.setter.Goals as goal

pub setter_of-requires : goal.setter_of-requires
setter_of-requires c = setter_named_so c.args.key.now c.in_ok-name.name (search rules)
