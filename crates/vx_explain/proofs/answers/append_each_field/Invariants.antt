use Rattle.std.proofs.Common.{◌≡◌, ◌++◌, [], codes, drop, map}
use Rattle.vx_syntax.specs.Print.{joined}
use Rattle.vx_explain.specs.AnswerTexts.{declared_text}
use Rattle.vx_explain.proofs.answers.append_each_field.Given as goal

abbrev pub invariant-loop-field : goal.invariant-loop-field
invariant-loop-field l =
    l.text.items ++ joined l.lead (codes ", ") (map declared_text (drop l.field-index l.fields))
    ≡ l.initial.text.items ++ joined [] (codes ", ") (map declared_text l.fields)
