pub mod Codes
pub mod Settings
pub mod Parts
pub mod Agreement
pub mod Compiling
