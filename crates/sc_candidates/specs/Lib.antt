pub mod Values
pub mod Equations
pub mod Crowds
pub mod Kins
pub mod Ancestors
