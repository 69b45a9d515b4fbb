pub mod Listed
pub mod Saying
pub mod Telling
