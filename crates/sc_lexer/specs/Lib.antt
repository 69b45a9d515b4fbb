pub mod Blanks
pub mod Escapes
pub mod Fronts
pub mod Parts
pub mod Pieces
pub mod Reading
pub mod Spans
pub mod Tokens
