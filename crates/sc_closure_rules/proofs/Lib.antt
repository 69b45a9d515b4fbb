pub use Rattle.sc_term_definitions.proofs.MakingLaws
pub use Rattle.sc_term_definitions.proofs.MemberLaws
pub use Rattle.sc_term_laws.proofs.FitLaws
pub use Rattle.sc_term_laws.proofs.FitVals
pub use Rattle.sc_term_laws.proofs.JudgingLaws
pub use Rattle.sc_term_laws.proofs.TestLaws
pub mod LoopLaws
mod FollowLaws
mod StandingLaws
mod LinkingLaws
mod InsideLaws
mod AncestorLaws
mod PartLaws
pub mod SortLaws
mod MadeLaws
mod BesideLaws
pub mod UpLaws
pub mod MetLaws
pub mod RoleLaws
pub mod ClosedTermLaws
mod Examples
