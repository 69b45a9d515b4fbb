pub mod CodeLaws
pub mod StandLaws
pub mod CollectionLaws
