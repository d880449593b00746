pub mod Deserialize
