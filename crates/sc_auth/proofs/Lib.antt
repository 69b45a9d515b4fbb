pub mod DecisionsLaws
pub mod PlacesLaws
pub mod Examples
pub mod StandingsLaws
