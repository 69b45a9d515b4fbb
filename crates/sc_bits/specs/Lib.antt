pub mod Bits
pub mod Adders
pub mod Orders
pub mod Products
pub mod Blocks
pub mod Addresses
pub mod Plain
