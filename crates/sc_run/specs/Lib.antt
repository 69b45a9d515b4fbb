pub mod Generates
pub mod Promises
pub mod Reduces
pub mod Replays
pub mod Runs
