pub mod AddedLemmas
pub mod BoundLemmas
pub mod CauseLemmas
pub mod Later
pub mod ManifestLemmas
pub mod UnreadRows
pub mod ViewLemmas
