pub mod ByText
pub mod Found
pub mod Globs
