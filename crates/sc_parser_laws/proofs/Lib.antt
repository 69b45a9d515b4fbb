pub mod ChoiceLaws
pub mod TokenTestLaws
pub mod NameEndLaws
pub mod ExpressionEndLaws
pub mod FileEndLaws
pub mod LexingLaws
pub mod TotalLaws
