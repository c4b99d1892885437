use Rattle.std.proofs.Common.{◌≡◌, ◌++◌, drop}
use Rattle.vx_answers.specs.Facts.{fields_of}
use Rattle.vx_facts.proofs.objects.fields_among.Given as goal

abbrev pub invariant-loop-decl : goal.invariant-loop-decl
invariant-loop-decl l = l.fields ++ fields_of (drop l.decl-index l.decls) l.x ≡ fields_of l.decls l.x
