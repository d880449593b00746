pub mod Names
pub mod Bucket
pub mod Hash
pub mod Index
pub mod private
