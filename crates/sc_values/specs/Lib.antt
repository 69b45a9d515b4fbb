pub mod Order
pub mod Sets
pub mod Records
pub mod Repeats
pub mod Proper
pub mod Walks
