pub mod ListLaws
pub mod LitLaws
mod StepLaws
mod UnitLaws
mod FindingLaws
pub mod CountLaws
