pub mod BadNameLaws
pub mod EscapeLaws
pub mod LitsLaws
pub mod PartsLaws
pub mod PathLaws
pub mod ScanningLaws
pub mod UidLaws
