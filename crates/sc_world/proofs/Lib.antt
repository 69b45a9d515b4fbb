pub mod StoreLaws
pub mod ConformsLaws
pub mod ChoiceLaws
mod ActionLaws
mod AncestorLaws
mod LeastLaws
pub mod BrokenLaws
pub mod PartLaws
pub mod TestLaws
mod UidsLaws
mod DefaultLaws
mod TypeLaws
mod RequiredLaws
mod DefaultTypeLaws
pub mod FillLaws
pub mod DeclaredLaws
mod DefaultEntityLaws
mod NamedWithLaws
mod GivenWorldLaws
