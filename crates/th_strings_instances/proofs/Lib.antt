pub mod FewLaws
mod PlentyLaws
mod PatternLaws
pub mod NameLaws
mod SaidLaws
mod ClauseLaws
pub mod RulesHold
pub mod InstanceLaws
