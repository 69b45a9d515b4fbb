pub mod Pointers
pub mod Steps
pub mod Trees
