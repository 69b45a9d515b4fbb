pub mod PointersLaws
mod StringsLaws
mod TokensLaws
pub mod TidyTreeLaws
pub mod TreesLaws
pub mod ViewLaws
pub mod WalkLaws
