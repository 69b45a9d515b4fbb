pub mod Texts
pub mod Known
pub mod Scarce
pub mod Violated
