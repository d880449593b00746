pub mod Allowed
pub mod Banned
pub mod Duplicates
pub mod EntryHits
pub mod Skipping
pub mod WrappedEdges
