pub mod RangeLaws
pub mod NotationLaws
pub mod GroupLaws
pub mod AddressLaws
pub mod PrefixLaws
pub mod WrittenLaws
pub mod ValueLaws
pub mod RangeTestLaws
