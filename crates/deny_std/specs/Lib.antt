pub mod Found
pub mod private
