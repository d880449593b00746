pub mod AtHand
pub mod ByText
pub mod Sums
pub mod private
