pub mod formers
pub mod Declarations
pub mod Indices
pub mod Lawful
pub mod Sizes
pub mod Expanded
pub mod Resolved
