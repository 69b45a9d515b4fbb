pub mod Rebuilt
pub mod Laws
