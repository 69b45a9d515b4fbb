pub mod ListLaws
pub mod MemberLaws
pub mod OrderedLaws
pub mod OrderingLaws
pub mod SeqLaws
pub mod TextLaws
