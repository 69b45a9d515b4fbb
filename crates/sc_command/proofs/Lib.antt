pub mod BudgetLaws
pub mod CommandLaws
