pub mod MatchLaws
pub mod SameLaws
pub mod TestLaws
