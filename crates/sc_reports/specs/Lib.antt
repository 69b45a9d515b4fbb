pub mod Analyses
pub mod Claims
pub mod Lines
pub mod LogReading
pub mod Logs
pub mod Progress
pub mod Reports
pub mod View
