pub mod FeatureLemmas
pub mod LockLemmas
pub mod NamedLemmas
pub mod NumberLemmas
pub mod RequiredLemmas
pub mod TableLemmas
pub mod ReportedLemmas
