pub mod GoalLaws
mod KnownLaws
