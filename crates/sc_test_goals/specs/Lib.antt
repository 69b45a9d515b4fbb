pub mod Plain
pub mod Known
