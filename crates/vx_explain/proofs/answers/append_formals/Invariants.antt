use Rattle.std.proofs.Common.{◌≡◌, ◌++◌, [], codes, drop, map}
use Rattle.vx_syntax.specs.Print.{joined}
use Rattle.vx_explain.specs.AnswerTexts.{formal_text}
use Rattle.vx_explain.proofs.answers.append_formals.Given as goal

abbrev pub invariant-loop-formal : goal.invariant-loop-formal
invariant-loop-formal l =
    l.text.items ++ joined l.lead (codes ", ") (map formal_text (drop l.formal-index l.formals))
    ≡ l.initial.text.items ++ joined [] (codes ", ") (map formal_text l.formals)
