mod BreakLaws
mod SoundLaws
mod BreakLineLaws
pub mod LineLaws
