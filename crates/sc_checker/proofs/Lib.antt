mod ListedLaws
pub mod Soundness
mod ProgressLaws
pub mod VerdictLaws
pub mod StreamLaws
mod PieceLaws
pub mod StreamVerdicts
mod OnceLaws
