pub mod Bad
pub mod Prefix
pub mod Reader
pub mod Reading
pub mod RequirementReader
