use Rattle.std.proofs.Common.{◌≡◌, ◌++◌, drop}
use Rattle.vx_answers.specs.Facts.{children_of}
use Rattle.vx_facts.proofs.objects.children_among.Given as goal

abbrev pub invariant-loop-decl : goal.invariant-loop-decl
invariant-loop-decl l = l.children ++ children_of (drop l.decl-index l.decls) l.x ≡ children_of l.decls l.x
