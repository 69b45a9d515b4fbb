pub mod Above
pub mod Graphs
pub mod Schemas
pub mod Spelling
