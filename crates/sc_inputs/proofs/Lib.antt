pub mod ServingLaws
pub mod CheckingLaws
pub mod ReadingLaws
