pub mod Findings
pub mod Given
pub mod Turns
