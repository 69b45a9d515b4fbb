pub mod DepthLaws
pub mod EveryWrittenLaws
mod Examples
pub mod FaultsLaws
pub mod FormedLaws
pub mod FormsLaws
pub mod PlacesLaws
pub mod SyntaxLaws
pub mod WellWrittenLaws
pub mod WrittenLaws
