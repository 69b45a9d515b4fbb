pub mod Written
pub mod TypeSorts
