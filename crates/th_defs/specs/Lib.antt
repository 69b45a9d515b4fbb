pub mod Instances
pub mod Items
pub mod Places
pub mod Numbers
pub mod ClauseLaws
pub mod DefinitionLaws
pub mod Laws
