pub mod OutLaws
pub mod EveryLaws
pub mod EntitiesLaws
pub mod OfTypesLaws
pub mod DefaultLaws
