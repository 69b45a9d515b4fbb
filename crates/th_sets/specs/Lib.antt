pub mod Rows
pub mod Named
pub mod Free
pub mod Moves
