pub mod Typing
pub mod Settings
pub mod Policies
pub mod Names
pub mod Written
pub mod WrittenOut
pub mod Checking
