pub mod FoundLemmas
pub mod GlobLemmas
