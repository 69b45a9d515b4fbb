pub mod OperatorsLaws
