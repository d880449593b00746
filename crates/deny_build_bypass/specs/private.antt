pub mod Components
pub mod Paths
