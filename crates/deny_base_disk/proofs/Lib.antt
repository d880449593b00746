pub mod CallLemmas
pub mod ChildrenLemmas
pub mod PathsLemmas
pub mod PieceLemmas
pub mod WritingLemmas
