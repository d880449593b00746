pub mod Borrowed
pub mod Selection
pub mod Parts
