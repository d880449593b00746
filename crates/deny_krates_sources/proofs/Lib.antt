pub mod CheckedLemmas
pub mod IndexLemmas
pub mod PackageTextsLemmas
pub mod SourceLemmas
pub mod VersionsLemmas
