pub mod DepthLaws
pub mod KeyLaws
pub mod LexemeLaws
pub mod NumberLaws
