mod TruthLaws
mod PatternLaws
mod ClassLaws
mod TableLaws
pub mod NamingLaws
mod NumberLaws
mod IdLaws
mod ModelLaws
