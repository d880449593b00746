pub mod Crates
pub mod FeatureMatches
pub mod Keys
pub mod Listed
pub mod Reached
pub mod Steps
