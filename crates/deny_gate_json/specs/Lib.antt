pub mod Diagnostics
pub mod Findings
pub mod Graphs
pub mod Labels
pub mod Lines
pub mod Reading
pub mod private
