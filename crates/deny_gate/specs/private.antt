pub mod Dead
pub mod Gating
pub mod Hits
pub mod Labels
pub mod Report
pub mod Warnings
