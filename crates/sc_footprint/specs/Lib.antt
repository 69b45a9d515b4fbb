pub use Rattle.sc_closure.specs.Atoms
pub use Rattle.sc_closure.specs.Closure
pub use Rattle.sc_closure.specs.Goals
pub use Rattle.sc_closure.specs.Judging
pub use Rattle.sc_closure.specs.Places
pub use Rattle.sc_closure.specs.Definitions as TermDefinitions
pub use Rattle.sc_closure.specs.Truths as TermTruths
pub mod Problems
pub mod Kinds
pub mod Shelves
pub mod Companions
pub mod Indices
pub mod Shelving
pub mod Definitions
pub mod Truths
pub mod Written
pub mod Theories
