pub mod Operations
pub mod Derivations
pub mod Paths
pub mod Moved
