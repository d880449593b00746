pub mod Bad
pub mod Grammar
pub mod Meaning
pub mod Reader
pub mod Reads
pub mod Tokens
pub mod Truth
pub mod private
