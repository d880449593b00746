pub mod FoundLemmas
pub mod IgnoredLemmas
pub mod KeyLemmas
pub mod NoteLemmas
pub mod PlaceLemmas
pub mod ReportingLemmas
pub mod SaidLemmas
pub mod StableLemmas
