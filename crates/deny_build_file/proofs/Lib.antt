mod ChecksumRows
mod HeaderRows
mod HomeRows
mod WrittenLemmas
pub mod EndLemmas
pub mod HashingLemmas
pub mod HomeLemmas
pub mod PrefixLemmas
pub mod ScriptLemmas
