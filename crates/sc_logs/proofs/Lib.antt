mod TextLaws
mod NumberLaws
mod WordLaws
mod LineWordLaws
pub mod LineLaws
mod PlaceLaws
mod WholeLineLaws
pub mod LineStepLaws
pub mod ReadingLaws
mod Examples
