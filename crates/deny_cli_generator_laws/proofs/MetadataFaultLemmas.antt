-- The generated metadata has no fault.
use Rattle.std.proofs.Common.{◌≡◌, ◌<◌, ◌^◌, ℕ, Ok}
use Rattle.deny_cli_generator.specs.Made.{below}
use Rattle.deny_cli_generator.specs.MetadataText.{metadata_text}
use Rattle.deny_krates_sources.specs.Checked.{checked}
use Rattle.deny_krates_metadata.specs.Document.{json_at, json_of, value_at, whole}
use Rattle.deny_cli_generator_laws.specs.Faults.{HasNoFault}
use Rattle.deny_cli_generator_laws.proofs.MetadataDocumentLemmas.{value-found}
use Rattle.deny_cli_generator_laws.proofs.MetadataReadingLemmas.{metadata-read, value-whole}
use Rattle.deny_cli_generator_laws.proofs.MetadataResolvedLemmas.{outcome, resolved-document}
use Rattle.deny_cli_generator_laws.proofs.MetadataUtf8Lemmas.{metadata-utf8}
use Rattle.deny_cli_generator_laws.proofs.MetadataValues.{value}

module _ (crates : ℕ) (few : crates < 2 ^ 64) where
  value_at-metadata : value_at (metadata_text crates) ≡ Ok (value (below crates))
  unfolding value_at json_at json_of whole
  value_at-metadata =
      rw (metadata-utf8 crates few, metadata-read crates few, value-whole (below crates))

  checked-metadata : checked (metadata_text crates) ≡ Ok (outcome crates)
  unfolding checked
  checked-metadata = rw (value_at-metadata, value-found (below crates)) (resolved-document crates few)

  pub metadata-no_fault : HasNoFault (metadata_text crates)
  metadata-no_fault = record { read = outcome crates; is_read = checked-metadata }
