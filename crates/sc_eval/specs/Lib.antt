pub mod Outcomes
pub mod Entities
pub mod Collections
pub mod Operators
pub mod Eval
pub mod Written
pub mod ConstructLaws
pub mod CollectionLaws
