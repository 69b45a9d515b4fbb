pub mod Texts
pub mod Plenty
pub mod Patterns
pub mod Names
pub mod Instances
pub mod Places
