pub mod Decisions
pub mod Standings
