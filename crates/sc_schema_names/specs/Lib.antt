pub mod Names
pub mod Resolution
pub mod Resolves
pub mod Tables
pub mod Unknown
