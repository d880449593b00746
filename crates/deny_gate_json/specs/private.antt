pub mod Making
pub mod Weight
pub mod Writing
