pub mod Forms
pub mod Characters
