pub mod Conditions
pub mod Literals
