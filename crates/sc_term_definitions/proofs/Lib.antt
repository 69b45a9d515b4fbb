pub mod MemberLaws
pub mod MakingLaws
pub mod PlaceLaws
mod Examples
mod ValueLaws
mod RowLaws
pub mod EquationLaws
mod TruthLaws
mod PartLaws
mod HoldLaws
mod InputLaws
mod ReadingLaws
