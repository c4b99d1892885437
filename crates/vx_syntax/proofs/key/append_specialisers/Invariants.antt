use Rattle.std.proofs.Common.{◌≡◌, ◌++◌, [], codes, drop, map}
use Rattle.vx_syntax.specs.Print.{joined, specialiser_text}
use Rattle.vx_syntax.proofs.key.append_specialisers.Given as goal

abbrev pub invariant-loop-specialiser : goal.invariant-loop-specialiser
invariant-loop-specialiser l =
    l.text.items ++ joined l.lead (codes ",") (map specialiser_text (drop l.specialiser-index l.specialisers))
    ≡ l.initial.text.items ++ joined [] (codes ",") (map specialiser_text l.specialisers)
