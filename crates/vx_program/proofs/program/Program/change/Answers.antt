use Rattle.std.proofs.Common.{rules}
use Rattle.vx_program.proofs.Keeps.{keeps_either}
use Rattle.vx_program.proofs.program.Program.change.Goals as goal

pub invariant_of-self : goal.invariant_of-self
invariant_of-self c =
    keeps_either c.change.result c.self.inside.decls.items c.one-item.result c.change.new.decls.items (c.change.ensures.ok, c.change.ensures.unchanged)
    (c.self.invariant, search rules)
