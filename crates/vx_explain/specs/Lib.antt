pub mod NodeTexts
pub mod AnswerTexts
