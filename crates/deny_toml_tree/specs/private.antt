pub mod Calls
pub mod Gathered
pub mod Slots
