mod AboveLaws
mod BuildingLaws
mod CountLaws
mod CycleLaws
mod GraphLaws
mod LinksLaws
mod OneLaws
mod PickedLaws
mod PlaceLaws
mod SchemaLaws
mod SortingLaws
mod TypeLaws
pub mod AscendingLaws
pub mod DescribingLaws
pub mod EitherLaws
pub mod SpelledGraphLaws
pub mod KeyedLaws
pub mod LeadingLaws
pub mod SpelledLinksLaws
pub mod MadeLaws
pub mod ReadingLaws
pub mod SpellingLaws
