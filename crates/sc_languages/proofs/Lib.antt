pub mod ListLaws
pub mod VisitedLaws
pub mod StepLaws
pub mod SymbolLaws
pub mod SearchLaws
pub mod PatternLaws
pub mod TextLaws
