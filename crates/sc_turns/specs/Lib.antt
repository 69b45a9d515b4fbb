pub mod Turns
pub mod Turning
