pub mod CompilingLaws
pub mod PropertiesLaws
pub mod GoalsLaws
pub mod QueriesLaws
pub mod RightLaws
pub mod TermsLaws
pub mod PosedLaws
pub mod SelectionsLaws
mod Examples
