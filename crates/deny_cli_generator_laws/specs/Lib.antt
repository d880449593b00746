pub mod Faults
pub mod Policies
