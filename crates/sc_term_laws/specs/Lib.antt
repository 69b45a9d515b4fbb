pub mod LawfulSorts
pub mod Unfolded
pub mod Judging
pub mod Tests
pub mod Judged
pub mod Fitting
pub mod Booleans
