pub mod Code
pub mod Objects
pub mod Numbers
