pub use Rattle.sc_term_definitions.specs.declared.function.Function as DefinedFunction
pub use Rattle.sc_term_definitions.specs.declared.function.Shape as DefinedShape
pub use Rattle.sc_term_definitions.specs.Definitions
pub use Rattle.sc_term_definitions.specs.Functions
pub use Rattle.sc_term_definitions.specs.Making
pub use Rattle.sc_term_definitions.specs.Truths
pub use Rattle.sc_term_laws.specs.Fitting
pub use Rattle.sc_term_laws.specs.Judging
pub mod Closure
pub mod Goals
pub mod Linking
pub mod Beside
