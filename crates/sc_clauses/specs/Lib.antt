pub mod Clauses
pub mod Assignments
pub mod Arrays
