pub mod UnknownLaws
pub mod TableLaws
pub mod KeyLaws
pub mod SpecLaws
pub mod LicenceLaws
pub mod DayLaws
pub mod DayRows
pub mod ReadsLaws
