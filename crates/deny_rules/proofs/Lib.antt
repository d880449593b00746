pub mod BuildSections
pub mod StdLastLemmas
pub mod OwnRuleLemmas
pub mod OrderedLemmas
pub mod StdLemmas
pub mod CheckLemmas
