pub mod Checked
pub mod PackageTexts
pub mod Source
pub mod Versions
pub mod private
