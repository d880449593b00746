pub mod Kept
pub mod NodeNumbers
pub mod Resolved
pub mod Sources
