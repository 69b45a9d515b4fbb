pub mod Writable
pub mod Texts
pub mod Readings
pub mod LineSteps
