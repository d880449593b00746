pub mod Executing
