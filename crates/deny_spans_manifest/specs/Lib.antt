pub mod Agreement
pub mod Declarations
pub mod Fault
pub mod Found
pub mod Ignored
pub mod Manifest
pub mod Written
pub mod private
