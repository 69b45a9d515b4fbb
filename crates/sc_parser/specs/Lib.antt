pub mod Faults
pub mod Grammar
pub mod GrammarFiles
pub mod Limits
pub mod Reads
pub mod ReadsFiles
pub mod Spelling
