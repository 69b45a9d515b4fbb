pub mod ItemLaws
pub mod LineLaws
pub mod PolicyLaws
pub mod ReadingLaws
pub mod TextLaws
