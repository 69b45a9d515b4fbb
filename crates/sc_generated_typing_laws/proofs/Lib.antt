pub mod DeclaringLaws
pub mod DerivationLaws
pub mod ExpandingLaws
pub mod PoliciesLaws
pub mod ResolvingLaws
pub mod SchemaLaws
pub mod TypingLaws
