pub mod Arenas
pub mod Refutations
pub mod Known
