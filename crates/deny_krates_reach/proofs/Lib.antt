pub mod ReachedLemmas
mod ReachedRows
pub mod StartLemmas
pub mod StepLemmas
