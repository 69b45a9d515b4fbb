pub mod Free
pub mod Memberships
pub mod Places
pub mod Alike
