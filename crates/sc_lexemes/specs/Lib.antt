pub mod Depth
pub mod Keys
pub mod Lexemes
pub mod Outcomes
pub mod ReadsWords
pub mod Shapes
pub mod Tables
