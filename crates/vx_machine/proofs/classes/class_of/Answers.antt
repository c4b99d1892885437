use Rattle.std.proofs.Common.{sym, ◌∙◌}
use Rattle.vx_machine.proofs.Testing.{class_of_object}
use Rattle.vx_machine.proofs.classes.class_of.Goals as goal

pub returns-in-Object : goal.returns-in-Object
returns-in-Object c = λ texts. rw c.in-Object.is (c.class_at.ensures ∙ sym (class_of_object texts c.args.own.now c.args.objects.now c.in-Object.o))
