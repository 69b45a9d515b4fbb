pub mod Units
pub mod Findings
