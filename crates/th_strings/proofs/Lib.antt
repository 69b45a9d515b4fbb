mod TextLaws
mod ScarceLaws
mod OutLaws
mod PlaceLaws
mod MatchLaws
mod CrowdLaws
mod TheoryLaws
