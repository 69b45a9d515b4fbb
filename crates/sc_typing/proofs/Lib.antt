mod ActingLaws
pub mod TypingLaws
pub mod ToComeLaws
pub mod ErasureLaws
pub mod CheckingLaws
pub mod WrittenLaws
pub mod WrittenOutLaws
pub mod AnswersLaws
