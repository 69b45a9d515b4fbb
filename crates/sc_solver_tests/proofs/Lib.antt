pub mod GoalLaws
