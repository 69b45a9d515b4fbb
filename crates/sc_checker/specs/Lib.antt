pub use Rattle.sc_logs.specs.Writable
pub use Rattle.sc_logs.specs.Texts
pub use Rattle.sc_logs.specs.Readings
pub use Rattle.sc_refutations.specs.Refutations
pub mod Verdicts
pub mod Progress
pub mod Streams
