pub mod Signed
pub mod Terms
pub mod Places
pub mod Equal
pub mod Sets
pub mod Entities
pub mod Strings
pub mod Laws
