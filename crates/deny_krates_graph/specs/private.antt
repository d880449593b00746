pub mod Direct
pub mod Graph
pub mod Numbered
pub mod OtherLinks
pub mod Reach
pub mod Relations
pub mod Taken
