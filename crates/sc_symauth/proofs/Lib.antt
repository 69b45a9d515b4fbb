pub mod NumbersLaws
pub mod ValuesLaws
pub mod StandingsLaws
pub mod TermsLaws
