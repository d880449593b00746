pub mod Begun
pub mod Found
pub mod Gathered
pub mod Workspace
