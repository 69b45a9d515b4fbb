pub mod Addresses
pub mod IpText
pub mod IpValue
pub mod Notations
