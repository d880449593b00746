pub mod Check
pub mod Packages
pub mod private
