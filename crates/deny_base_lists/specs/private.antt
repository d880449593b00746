pub mod Halving
pub mod Reaching
