pub mod Serving
pub mod FaultTexts
pub mod Refusals
pub mod View
pub mod Readings
