pub mod Reached
pub mod private
