pub mod Subterms
pub mod Depths
pub mod Functions
pub mod Names
pub mod Ancestries
pub mod Scripts
pub mod Gaining
