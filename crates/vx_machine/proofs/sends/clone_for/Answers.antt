use Rattle.std.proofs.Common.{sym}
use Rattle.vx_machine.proofs.Sending.{no_class}
use Rattle.vx_machine.proofs.sends.clone_for.Goals as goal

pub returns-in_default : goal.returns-in_default
returns-in_default c = rw c.in_default.is (sym (no_class c.args.code c.args.pairs.now))
