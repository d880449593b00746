pub mod Check
pub mod private
