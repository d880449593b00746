pub mod LineLemmas
pub mod LockRows
pub mod OrderLemmas
pub mod PartLemmas
pub mod SpanLemmas
pub mod TextLemmas
pub mod WritingLemmas
