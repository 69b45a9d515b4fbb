pub use Rattle.sc_model_values.specs.Laws as ModelLaws
pub use Rattle.sc_model_values.specs.Models
pub mod Laws
pub mod Places
