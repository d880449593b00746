pub mod BuildLaws
pub mod BuiltinLaws
pub mod FittingLaws
pub mod GlobLaws
mod Rows
pub mod WrongLaws
