pub mod PosedLaws
pub mod AnalysisLaws
pub mod ClaimLaws
pub mod LogReadingLaws
pub mod LineLaws
pub mod LogLaws
pub mod ReportLaws
