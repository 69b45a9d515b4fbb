mod BareLaws
pub mod JoinLaws
pub mod TypeOfLaws
pub mod UntypedLaws
pub mod OutcomeLaws
pub mod CapabilityLaws
pub mod LayerLaws
pub mod SameLaws
pub mod KindLaws
