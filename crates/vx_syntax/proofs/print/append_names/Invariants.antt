use Rattle.std.proofs.Common.{◌≡◌, ◌++◌, codes, drop}
use Rattle.vx_syntax.specs.Print.{joined, listed}
use Rattle.vx_syntax.proofs.print.append_names.Given as goal

abbrev pub invariant-loop-name : goal.invariant-loop-name
invariant-loop-name l = l.text.items ++ joined l.lead (codes ", ") (drop l.name-index l.names) ≡ l.initial.text.items ++ listed l.names
