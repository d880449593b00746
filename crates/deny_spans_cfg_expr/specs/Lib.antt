pub mod Expression
pub mod Grammar
pub mod Tokens
pub mod private
