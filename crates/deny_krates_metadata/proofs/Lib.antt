pub mod BorrowedLemmas
pub mod ElementsLemmas
pub mod FeaturesLemmas
pub mod PartsLemmas
pub mod PrunedLemmas
pub mod ReadBackLemmas
pub mod SelectionLemmas
pub mod WholeLemmas
