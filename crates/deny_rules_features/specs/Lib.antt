pub mod Crates
pub mod FeatureKeys
pub mod Listed
pub mod private
