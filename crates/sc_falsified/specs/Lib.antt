pub mod Truths
pub mod Classes
pub mod Chains
pub mod Crowds
pub mod Paths
pub mod Colours
pub mod Settled
