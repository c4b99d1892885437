use Rattle.std.proofs.Common.{◌≡◌, ◌++◌, [], codes, drop, map}
use Rattle.vx_syntax.specs.Print.{joined}
use Rattle.vx_explain.specs.NodeTexts.{node_text}
use Rattle.vx_explain.proofs.nodes.append_nodes.Given as goal

abbrev pub invariant-loop-node : goal.invariant-loop-node
invariant-loop-node l =
    l.text.items ++ joined l.lead (codes ", ") (map node_text (drop l.node-index l.nodes))
    ≡ l.initial.text.items ++ joined [] (codes ", ") (map node_text l.nodes)
