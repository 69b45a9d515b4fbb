pub mod Clauses
pub mod ScriptWords
pub mod SplitBits
pub mod Sums
