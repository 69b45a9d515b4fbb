mod AscendingLaws
mod FoundLaws
pub mod GraphLaws
pub mod KeyLaws
mod LeaveLaws
mod MoveLaws
pub mod OrderLaws
mod PartLaws
mod PathLaws
pub mod PlacesLaws
pub mod ReachesLaws
mod SearchLaws
