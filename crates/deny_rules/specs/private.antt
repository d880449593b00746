pub mod OfPackages
pub mod OwnRules
pub mod Replaced
pub mod Reported
