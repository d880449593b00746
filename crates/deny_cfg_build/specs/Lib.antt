-- What the contracts of this crate cite.
pub mod Build
pub mod BuildingView
pub mod Builtin
pub mod Globs
pub mod Wrong
pub mod private
