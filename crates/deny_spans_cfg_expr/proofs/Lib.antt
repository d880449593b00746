pub mod AgreeLemmas
pub mod ReaderLemmas
pub mod SpellingLemmas
pub mod SplitLemmas
pub mod TokenLemmas
