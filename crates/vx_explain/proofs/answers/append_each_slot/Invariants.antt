use Rattle.std.proofs.Common.{◌≡◌, ◌++◌, [], codes, drop, map}
use Rattle.vx_syntax.specs.Print.{joined}
use Rattle.vx_explain.specs.AnswerTexts.{slot_text}
use Rattle.vx_explain.proofs.answers.append_each_slot.Given as goal

abbrev pub invariant-loop-slot : goal.invariant-loop-slot
invariant-loop-slot l =
    l.text.items ++ joined l.lead (codes ", ") (map slot_text (drop l.slot-index l.slots))
    ≡ l.initial.text.items ++ joined [] (codes ", ") (map slot_text l.slots)
