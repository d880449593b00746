pub mod Cause
pub mod Entries
pub mod Folder
pub mod Walk
pub mod private
