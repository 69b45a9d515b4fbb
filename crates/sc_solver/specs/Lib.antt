pub mod Families
pub mod Theories
pub mod FamilyLaws
pub mod OtherLaws
pub mod RuleLaws
pub mod Rebuilding
pub mod Solutions
