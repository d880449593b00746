pub mod AgreementLemmas
pub mod Cases
pub mod EntryLemmas
pub mod PathLemmas
pub mod SuffixLemmas
pub mod WorkspaceLemmas
mod DepSpecRows
mod EntryRows
mod PathRows
mod RegistryRows
mod RepositoryRows
mod WorkspaceRows
