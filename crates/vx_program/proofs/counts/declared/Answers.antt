use Rattle.std.proofs.Common.{◌∙◌}
use Rattle.vx_program.proofs.Lookups.{counted_between}
use Rattle.vx_program.proofs.counts.declared.Goals as goal

pub returns : goal.returns
returns c decl = c.saturating_sub.ensures ∙ counted_between c.args.front.now c.args.behind.now decl c.requires
