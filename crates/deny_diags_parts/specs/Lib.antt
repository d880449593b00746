pub mod BySpan
pub mod Context
