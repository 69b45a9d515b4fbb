pub mod SpellingLaws
pub mod StatusLaws
pub mod DeterminedLaws
pub mod ReplayLaws
pub mod ReductionLaws
pub mod GenerationLaws
