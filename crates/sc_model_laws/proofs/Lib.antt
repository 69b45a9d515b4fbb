pub mod SortSteps
mod SortLaws
mod ValLaws
mod EquationTerms
pub mod HoldLaws
pub mod ClosedLaws
mod ClaimLaws
pub mod CompositeClaims
pub mod SetClaims
mod RowLaws
pub mod ManyRows
mod SumRows
mod CarryRows
mod FoldedBits
mod RangeRows
mod ProductRows
mod TermLaws
mod CoveredLaws
pub mod ClassLaws
mod CountLaws
mod CrowdLaws
mod EqualityLaws
mod BoundLaws
mod NameLaws
pub mod ModelLaws
mod TextNames
mod TruthLaws
pub mod RebuildLaws
mod Examples
pub mod ConformingLaws
pub mod ClosureLaws
pub mod SortedVals
pub mod ChosenLaws
pub mod FittingLaws
pub mod DefaultLaws
pub mod LinkLaws
pub mod EntityLaws
pub mod ActionLaws
