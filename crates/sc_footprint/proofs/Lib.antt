pub use Rattle.sc_closure.proofs.SortLaws
pub mod NumberingLaws
pub mod IndexLaws
mod CompanionLaws
mod ShelvingLaws
mod CandidateLaws
mod LiteralLaws
pub mod PosingLaws
pub mod TruthLaws
pub mod OverLaws
pub mod KindLaws
pub mod ProblemLaws
mod Examples
