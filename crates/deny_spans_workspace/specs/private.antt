pub mod DepSpec
pub mod Entries
pub mod Workspace
