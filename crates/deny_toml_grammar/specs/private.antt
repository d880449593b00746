pub mod Reading
pub mod Lexical
pub mod Strings
pub mod Dates
pub mod Unquoted
pub mod Keys
pub mod Values
pub mod Lines
