pub mod Groups
pub mod Marks
pub mod Matches
pub mod Placed
pub mod Wrappers
pub mod private
