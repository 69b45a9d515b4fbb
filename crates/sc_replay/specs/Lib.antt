pub mod Breaks
pub mod Tests
pub mod Reports
pub mod Lines
