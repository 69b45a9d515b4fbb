pub mod CheckedLaws
