mod MarkLaws
mod KeptLaws
mod FormLaws
