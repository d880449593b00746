pub mod Growing
pub mod Levels
pub mod Weights
