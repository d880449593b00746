pub mod AskedLemmas
pub mod FlatLemmas
pub mod RowLemmas
pub mod SharingLemmas
pub mod UseLemmas
pub mod WildcardLemmas
