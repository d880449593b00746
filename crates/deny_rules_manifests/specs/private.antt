pub mod Asked
pub mod Rows
pub mod Sharing
pub mod Wildcards
