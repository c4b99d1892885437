use Rattle.std.proofs.Common.{◌≡◌, ◌++◌, [], codes, drop, map}
use Rattle.vx_syntax.specs.Print.{joined}
use Rattle.vx_explain.proofs.answers.append_each_name.Given as goal

abbrev pub invariant-loop-name : goal.invariant-loop-name
invariant-loop-name l =
    l.text.items ++ joined l.lead (codes ", ") (drop l.name-index l.names)
    ≡ l.initial.text.items ++ joined [] (codes ", ") l.names
