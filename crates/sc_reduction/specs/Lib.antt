pub mod Lines
pub mod Marked
pub mod Passes
pub mod Reductions
pub mod Telling
pub mod Trials
