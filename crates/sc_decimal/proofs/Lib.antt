pub mod DecimalLaws
pub mod WrittenLaws
pub mod ValueLaws
