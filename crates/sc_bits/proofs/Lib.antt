pub mod NumberLaws
mod Examples
pub mod IntegerLaws
pub mod AdderLaws
pub mod OrderLaws
pub mod ProductLaws
pub mod BlockLaws
pub mod PlainLaws
mod AddressLaws
