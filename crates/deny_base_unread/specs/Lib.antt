pub mod Added
pub mod Bound
pub mod Causes
pub mod View
