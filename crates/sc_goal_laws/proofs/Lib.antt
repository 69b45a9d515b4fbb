pub mod PlainLaws
pub mod KeptLaws
pub mod GoalsLaws
pub mod WrittenLaws
