pub mod CountLaws
pub mod FailureLaws
pub mod PieceLaws
pub mod WriteLaws
