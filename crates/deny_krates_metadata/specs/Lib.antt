pub mod Document
pub mod Elements
pub mod Member
pub mod private
