pub mod Faults
pub mod Forms
pub mod Marks
pub mod PlainKeys
pub mod Reading
pub mod Text
pub mod Worlds
