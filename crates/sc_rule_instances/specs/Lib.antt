pub mod Clauses
pub mod EntityLiterals
pub mod Names
pub mod Instances
pub mod Known
pub mod Saying
pub mod Lookups
pub mod Given
