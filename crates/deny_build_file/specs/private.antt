pub mod Hashing
pub mod Home
pub mod Prefix
