use Rattle.std.proofs.Common.{◌≡◌, ◌++◌, [], codes, drop, map}
use Rattle.vx_syntax.specs.Print.{joined}
use Rattle.vx_explain.specs.AnswerTexts.{child_text}
use Rattle.vx_explain.proofs.answers.append_each_child.Given as goal

abbrev pub invariant-loop-child : goal.invariant-loop-child
invariant-loop-child l =
    l.text.items ++ joined l.lead (codes ", ") (map child_text (drop l.child-index l.children))
    ≡ l.initial.text.items ++ joined [] (codes ", ") (map child_text l.children)
