pub mod Escapes
pub mod Names
pub mod Paths
pub mod Scanning
pub mod Uids
