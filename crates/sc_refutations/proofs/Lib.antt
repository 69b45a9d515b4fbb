pub mod CodeLaws
mod ArenaLaws
mod LeftLaws
mod KnownLaws
mod RefutationLaws
pub mod AssumedLaws
