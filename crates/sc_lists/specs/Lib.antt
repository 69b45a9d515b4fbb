pub mod formers
pub mod Members
pub mod Ordered
pub mod Told
