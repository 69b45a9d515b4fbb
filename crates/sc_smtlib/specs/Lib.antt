pub mod Marks
pub mod Spoken
pub use Rattle.sc_smtlib_lines.specs.Scripts
pub use Rattle.sc_smtlib_terms.specs.Forms
