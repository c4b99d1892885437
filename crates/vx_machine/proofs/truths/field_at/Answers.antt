use Rattle.std.proofs.Common.{sym}
use Rattle.vx_machine.proofs.Testing.{field_found, field_missing}
use Rattle.vx_machine.proofs.truths.field_at.Goals as goal

pub returns-in-None : goal.returns-in-None
returns-in-None c = sym (field_missing c.args.fields.now c.args.name (sym c.in-None.ensures))

pub returns-in-Some : goal.returns-in-Some
returns-in-Some c = sym (field_found c.args.fields.now c.args.name c.in-Some.field.now (sym c.in-Some.ensures))
