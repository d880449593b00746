pub mod AgreementLaw
pub mod Cases
pub mod DeclarationLemmas
pub mod FormLemmas
mod FoundRows
pub mod IgnoredLemmas
mod IgnoredRows
pub mod ManifestLemmas
pub mod SectionLemmas
pub mod TargetLemmas
mod WrittenRows
