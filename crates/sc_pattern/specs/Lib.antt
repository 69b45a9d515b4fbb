pub mod Language
pub mod Runs
