pub mod Properties
pub mod Queries
pub mod Goals
pub mod Selections
