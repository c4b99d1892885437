use Rattle.std.proofs.Common.{sym, ◌∙◌}
use Rattle.std.proofs.lemmas.Result.{IfOk-weaker}
use Rattle.vx_reader.proofs.Fronts.{white_begins, word_begins, number_begins, text_begins, comment_begins, sign_begins}
use Rattle.vx_reader.proofs.tokenizer.front.Goals as goal

pub returns-then-is_white-clause-front : goal.returns-then-is_white-clause-front
returns-then-is_white-clause-front c = white_begins _ _ c.requires (sym c.is_white.ensures ∙ c.if-is_white.true) c.passes.ensures

pub returns-then-is_letter-clause-front : goal.returns-then-is_letter-clause-front
returns-then-is_letter-clause-front c =
    IfOk-weaker c.word_front.result _ _ (λ f is. word_begins _ f c.requires (sym c.is_white.ensures ∙ c.if-is_white.false) (sym c.is_letter.ensures ∙ c.if-is_letter.true) is)
    c.word_front.ensures.front

pub returns-then-is_ascii_digit-clause-front : goal.returns-then-is_ascii_digit-clause-front
returns-then-is_ascii_digit-clause-front c =
    number_begins _ _ c.requires (sym c.is_white.ensures ∙ c.if-is_white.false) (sym c.is_letter.ensures ∙ c.if-is_letter.false)
    (sym c.is_ascii_digit.ensures.value ∙ c.if-is_ascii_digit.true) c.number_front.ensures.front

pub returns-then-first-eq34-clause-front : goal.returns-then-first-eq34-clause-front
returns-then-first-eq34-clause-front c =
    IfOk-weaker c.text_front.result _ _ (λ f is. text_begins _ f c.requires (sym c.is_white.ensures ∙ c.if-is_white.false) (sym c.is_letter.ensures ∙ c.if-is_letter.false)
    (sym c.is_ascii_digit.ensures.value ∙ c.if-is_ascii_digit.false) c.if-first-eq34.true is)
    c.text_front.ensures.front

pub returns-then-begins_comment-clause-front : goal.returns-then-begins_comment-clause-front
returns-then-begins_comment-clause-front c =
    comment_begins _ _ c.requires (sym c.is_white.ensures ∙ c.if-is_white.false) (sym c.is_letter.ensures ∙ c.if-is_letter.false)
    (sym c.is_ascii_digit.ensures.value ∙ c.if-is_ascii_digit.false) c.if-first-eq34.false (sym c.begins_comment.ensures ∙ c.if-begins_comment.true) c.comment_front.ensures.front

pub returns-else-begins_comment-clause-front : goal.returns-else-begins_comment-clause-front
returns-else-begins_comment-clause-front c =
    sign_begins _ _ c.requires (sym c.is_white.ensures ∙ c.if-is_white.false) (sym c.is_letter.ensures ∙ c.if-is_letter.false)
    (sym c.is_ascii_digit.ensures.value ∙ c.if-is_ascii_digit.false) c.if-first-eq34.false (sym c.begins_comment.ensures ∙ c.if-begins_comment.false) c.sign_front.ensures.front
