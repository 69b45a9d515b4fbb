pub use Rattle.sc_closure_rules.proofs.FitLaws
pub use Rattle.sc_closure_rules.proofs.FitVals
pub use Rattle.sc_closure_rules.proofs.JudgingLaws
pub use Rattle.sc_closure_rules.proofs.MakingLaws
pub use Rattle.sc_closure_rules.proofs.MemberLaws
pub use Rattle.sc_closure_rules.proofs.SortLaws
pub mod PuttingLaws
pub mod IndexLaws
mod GroupLaws
mod GroupEquationLaws
mod TakingLaws
mod HeldLaws
mod TakenLaws
mod CrowdLaws
mod RoleLaws
mod TakesLaws
pub mod ClosingLaws
pub mod CountingLaws
mod SeedLaws
mod OverLimitLaws
