pub mod Reaching
pub mod Graphs
pub mod Keys
pub mod Searches
pub mod Paths
