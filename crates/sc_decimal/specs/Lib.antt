pub mod DecimalText
pub mod DecimalValue
