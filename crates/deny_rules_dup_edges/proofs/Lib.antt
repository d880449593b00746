pub mod AboveLemmas
pub mod EdgeLemmas
mod EdgeRows
pub mod DupSetLemmas
