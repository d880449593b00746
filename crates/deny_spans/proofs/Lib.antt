pub mod BegunLemmas
pub mod CountLemmas
pub mod FoundLemmas
pub mod GatherLemmas
pub mod HomeLemmas
pub mod IdLemmas
pub mod KeepLemmas
pub mod ManifestScanLemmas
pub mod OnceLemmas
pub mod OneViewLemmas
pub mod SeenLemmas
pub mod SharedLemmas
pub mod SpanLemmas
pub mod TreeLies
mod PathRows
