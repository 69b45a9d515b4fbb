pub mod PlaceLaws
pub mod NumbersLaws
pub mod AlongLaws
mod Examples
