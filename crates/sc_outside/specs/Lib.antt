pub mod Counts
pub mod Failures
pub mod Memory
pub mod Pieces
pub mod Reads
pub mod Writes
