pub mod Types
pub mod TypedExprs
pub mod Capabilities
pub mod Literals
pub mod Outcomes
