pub mod WatchedLitLaws
mod ListedLaws
pub mod RemovedLaws
pub mod WatchLaws
mod MarkLaws
mod GivingLaws
mod PlaceLaws
mod NumberLaws
pub mod LitLaws
pub mod NewnessLaws
pub mod CellLaws
pub mod TrailLaws
pub mod ReadingLaws
pub mod WatchingLaws
pub mod VisitLaws
mod HintLaws
pub mod AnalysisLaws
mod ExchangeLaws
pub mod RoomLaws
