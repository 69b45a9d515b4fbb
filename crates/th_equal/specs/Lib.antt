pub mod Rows
pub mod Naming
pub mod Classes
pub mod Equated
pub mod Joining
pub mod Equations
pub mod Free
