pub mod Reader
pub mod Tokens
