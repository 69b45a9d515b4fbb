pub mod Standings
pub mod Numbers
pub mod Agreement
