pub mod DividedLaws
pub mod EquationLaws
pub mod CrowdLoopLaws
pub mod JoinLaws
mod AncestorLaws
pub mod KinLaws
