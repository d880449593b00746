pub mod CrateLemmas
pub mod KeptLemmas
pub mod PathLemmas
pub mod ViewLemmas
