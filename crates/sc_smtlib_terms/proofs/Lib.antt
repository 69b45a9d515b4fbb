pub mod SeenLaws
pub mod SortTextLaws
mod DefaultTextLaws
mod LineLaws
mod SetLaws
