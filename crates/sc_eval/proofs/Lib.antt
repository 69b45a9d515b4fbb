pub mod TestLaws
pub mod CollectionsLaws
pub mod EntitiesLaws
pub mod ToComeLaws
pub mod AddressLaws
pub mod ProperLaws
pub mod ConstantLaws
pub mod ConditionLaws
pub mod TextLaws
mod Examples
