pub mod LitLaws
mod ArrayLaws
