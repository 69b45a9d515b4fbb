pub mod TellingLaws
pub mod SearchLaws
pub mod PassLaws
pub mod TrialLaws
