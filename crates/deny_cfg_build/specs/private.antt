pub mod BuildingView
pub mod Builtin
pub mod Globs
