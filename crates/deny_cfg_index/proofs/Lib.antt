pub mod Lists
pub mod BucketLemmas
pub mod IndexLemmas
pub mod Rows
