use Rattle.std.proofs.Common.{◌≡◌, ◌++◌, codes, map}
use Rattle.std.specs.List.{zip}
use Rattle.vx_syntax.specs.Print.{joined, listed, formal_text}
use Rattle.vx_syntax.proofs.print.append_formals.Given as goal

abbrev pub invariant-loop-formal : goal.invariant-loop-formal
invariant-loop-formal l =
    l.text.items ++ joined l.lead (codes ", ") (map formal_text (zip l.formal-iterator.a.rest.now l.formal-iterator.b.rest.now))
    ≡ l.initial.text.items ++ listed (map formal_text (zip l.formals l.specialisers))
