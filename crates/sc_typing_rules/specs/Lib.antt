pub mod Operators
pub mod Paths
pub mod Rules
