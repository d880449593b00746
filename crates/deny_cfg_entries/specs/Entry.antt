-- Entries: a spec, and what the table of an entry gives beside it.
use Rattle.std.specs.Prelude.{◌≡◌, ℕ, Bool, true, false, not, List, ◌++◌, Option, None, Some, is_some}
use Rattle.std.specs.List.{list_all}
use Rattle.deny_toml.specs.error.ConfigFault.{ConfigFault}
use Rattle.deny_toml.specs.value.Value.{Value}
use Rattle.deny_toml.specs.Calls.{text_in, value_at}
use Rattle.deny_cfg_entries.specs.declared.package_spec.PackageSpec.{PackageSpec}
use Rattle.deny_cfg_entries.specs.Spec.{spec_fields, spec_in, ReadsSpecKeys, ReadsSpecText}
use Rattle.deny_cfg_entries.specs.Table.{Entries, Field, ReadsTable, faults_of_table}
use Rattle.deny_cfg_entries.specs.Words.{faults_of_meaning}

-- the keys of a spec, and these keys behind them
abbrev pub entry_fields : List Field → Entries → List Field
entry_fields fields entries = spec_fields entries ++ fields

-- the faults of an entry, which is a spec written as a text or a table of these keys and those of a spec
abbrev pub faults_of_entry_by : List Field → Option (List ℕ) → Value → List ConfigFault
faults_of_entry_by fields None v = faults_of_table (entry_fields fields) v
faults_of_entry_by fields (Some text) v = faults_of_meaning v (spec_in text)

abbrev pub faults_of_entry : List Field → Value → List ConfigFault
faults_of_entry fields v = faults_of_entry_by fields (text_in v) v

-- what is read from the table of an entry: its spec, and what its other keys give
pub record ReadsEntryKeys {T : Type 0} (Reads : Entries → T → Type 0) (entries : Entries) (spec : PackageSpec)
    (said : T) : Type 0 where
  pub of_spec : ReadsSpecKeys entries spec
  pub besides : Reads entries said

abbrev pub ReadsPair : {T : Type 0} → (Entries → T → Type 0) → Entries → PackageSpec × T → Type 0
ReadsPair Reads entries pair = ReadsEntryKeys Reads entries pair.0 pair.1

abbrev pub ReadsEntryBy : {T : Type 0} → (Entries → Option T → Type 0) → Option (List ℕ) → Value → PackageSpec
    → Option T → Type 0
ReadsEntryBy Reads None v spec inner = ReadsTable (ReadsPair Reads) v (spec, inner)
ReadsEntryBy Reads (Some text) v spec inner = ReadsSpecText v spec × (inner ≡ None)

abbrev pub ReadsEntry : {T : Type 0} → (Entries → Option T → Type 0) → Value → PackageSpec → Option T → Type 0
ReadsEntry Reads v spec inner = ReadsEntryBy Reads (text_in v) v spec inner

-- whether a table has none of these keys
abbrev pub holds_none : List Field → Entries → Bool
holds_none fields entries = list_all (λ f. not (is_some (value_at f.name entries))) fields

-- what is read from these keys, where a table that has none of them gives nothing
abbrev pub ReadsSome : {T : Type 0} → List Field → (Entries → T → Type 0) → Entries → Option T → Type 0
ReadsSome fields Reads entries None = holds_none fields entries ≡ true
ReadsSome fields Reads entries (Some x) = (holds_none fields entries ≡ false) × Reads entries x
