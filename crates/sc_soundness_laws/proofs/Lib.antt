pub mod ValueLaws
pub mod ListLaws
pub mod JoinLaws
pub mod ObjectLaws
pub mod LiteralLaws
pub mod BareLaws
pub mod HoldingLaws
pub mod PathLaws
pub mod LogicLaws
pub mod EqualLaws
pub mod MembershipLaws
pub mod OperatorLaws
pub mod ConstructLaws
pub mod ActingLaws
pub mod ConditionLaws
mod CollectionLaws
mod SoundLaws
