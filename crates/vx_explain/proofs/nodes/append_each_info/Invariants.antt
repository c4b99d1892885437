use Rattle.std.proofs.Common.{◌≡◌, ◌++◌, [], codes, drop, map}
use Rattle.vx_syntax.specs.Print.{joined}
use Rattle.vx_explain.specs.NodeTexts.{info_text}
use Rattle.vx_explain.proofs.nodes.append_each_info.Given as goal

abbrev pub invariant-loop-info : goal.invariant-loop-info
invariant-loop-info l =
    l.text.items ++ joined l.lead (codes ",") (map info_text (drop l.info-index l.infos))
    ≡ l.initial.text.items ++ joined [] (codes ",") (map info_text l.infos)
