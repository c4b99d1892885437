use Rattle.std.proofs.Common.{◌≡◌, ◌++◌, [], codes, drop, map}
use Rattle.vx_syntax.specs.Print.{joined}
use Rattle.vx_explain.specs.AnswerTexts.{head_text}
use Rattle.vx_explain.proofs.answers.append_each_head.Given as goal

abbrev pub invariant-loop-head : goal.invariant-loop-head
invariant-loop-head l =
    l.text.items ++ joined l.lead (codes ", ") (map head_text (drop l.head-index l.heads))
    ≡ l.initial.text.items ++ joined [] (codes ", ") (map head_text l.heads)
