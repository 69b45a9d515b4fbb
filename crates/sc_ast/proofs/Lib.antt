pub mod LiteralsLaws
pub mod ConditionsLaws
mod Examples
