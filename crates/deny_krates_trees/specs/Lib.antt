pub mod Once
pub mod Parents
pub mod Shown
pub mod Text
pub mod Tree
pub mod private
