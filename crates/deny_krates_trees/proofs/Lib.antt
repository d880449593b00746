pub mod AdvanceLemmas
pub mod DependentLemmas
pub mod EnoughLemmas
pub mod GraphLemmas
pub mod GrowingLemmas
pub mod LevelLemmas
pub mod MetLemmas
mod TreeRows
pub mod OnceLemmas
pub mod WeightLemmas
