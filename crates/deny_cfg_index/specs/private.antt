pub mod Bucket
pub mod Index
