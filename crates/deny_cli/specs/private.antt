pub mod Arguments
pub mod Causes
pub mod Commands
pub mod Counted
pub mod Outputs
pub mod Stops
