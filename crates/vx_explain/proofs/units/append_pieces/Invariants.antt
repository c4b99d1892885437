use Rattle.std.proofs.Common.{◌≡◌, ◌++◌, [], codes, drop, map}
use Rattle.vx_syntax.specs.Print.{joined}
use Rattle.vx_explain.specs.AnswerTexts.{piece_text}
use Rattle.vx_explain.proofs.units.append_pieces.Given as goal

abbrev pub invariant-loop-piece : goal.invariant-loop-piece
invariant-loop-piece l =
    l.text.items ++ joined l.lead (codes " ") (map piece_text (drop l.piece-index l.unit))
    ≡ l.initial.text.items ++ joined [] (codes " ") (map piece_text l.unit)
