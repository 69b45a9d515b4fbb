pub mod Functions
pub mod Definitions
pub mod Truths
pub mod Making
pub mod Rows
