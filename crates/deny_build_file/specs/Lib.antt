pub mod CheckEnd
pub mod Header
pub mod Home
pub mod Script
pub mod private
