pub mod Deciding
pub mod Entries
pub mod Files
pub mod Folders
pub mod Order
pub mod Reading
pub mod Scripts
pub mod Walks
