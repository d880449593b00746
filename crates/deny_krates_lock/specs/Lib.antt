pub mod Line
pub mod Order
pub mod Text
pub mod private
