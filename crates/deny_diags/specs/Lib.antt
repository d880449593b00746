pub mod Here
pub mod Reporting
pub mod private
