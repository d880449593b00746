-- The severity of a finding depends on levels, and on no entry that can go.
use Rattle.std.proofs.Common.{◌≡◌, ℕ, List, Option, None, Some, refl}
use Rattle.std.specs.Prelude.{option_map}
use Rattle.std.specs.Option.{option_map_or}
use Rattle.deny_base.specs.declared.code.Code.TheVariants as code
use Rattle.deny_base.specs.declared.code.DiagnosticCode.TheVariants.{Bans}
use Rattle.deny_base.specs.declared.entry.EntryId.{EntryId}
use Rattle.deny_base.specs.declared.key.Key.{Key}
use Rattle.deny_base.specs.declared.license_code.LicenseCode.{LicenseCode}
use Rattle.deny_base.specs.declared.license_code.LicenseCode.TheVariants as license
use Rattle.deny_spec.specs.Building.{Building}
use Rattle.deny_spec.specs.Graph.{Graph}
use Rattle.deny_spec.specs.Licensing.{Licensing}
use Rattle.deny_spec.specs.Policy.{Replacing}
use Rattle.deny_spec_report.specs.Circumstances.{Circumstances}
use Rattle.deny_spec_report.specs.EachCode.{message_licensed}
use Rattle.deny_spec_report.specs.Licences.{not_encountered_diag, not_encountered_diag_in, rejected_diag}
use Rattle.deny_spec_report.specs.Licences.{rejected_diag_in}
use Rattle.deny_spec_report.specs.PackageDiags.{mismatch_severity}
use Rattle.deny_spec_report.specs.Saying.{Saying}
use Rattle.deny_spec_report.specs.StdReplacements.{replaced_diag, unmatched_ignore_diag}
use Rattle.deny_spec_report.specs.MessageParts.{not_built}
use Rattle.deny_spec_report.specs.declared.message.Message.{Message}
use Rattle.deny_spec_removal.specs.Removal.{cut_building, cut_licensing, cut_replacing}

-- ---- severities by an optional section

pub replaced_alike : (taken : List EntryId) (o : Option Replacing) (g : Graph) (said : Saying) (key : Key)
    → (option_map_or (λ r. replaced_diag r g said key) (option_map (cut_replacing taken) o) not_built).severity
    ≡ (option_map_or (λ r. replaced_diag r g said key) o not_built).severity
unfolding replaced_diag
replaced_alike taken None g said key = refl
replaced_alike taken (Some r) g said key = refl

pub ignore_alike : (taken : List EntryId) (o : Option Replacing) (file : ℕ) (key : Key)
    → (option_map_or (λ r. unmatched_ignore_diag r file key) (option_map (cut_replacing taken) o) not_built).severity
    ≡ (option_map_or (λ r. unmatched_ignore_diag r file key) o not_built).severity
unfolding unmatched_ignore_diag
ignore_alike taken None file key = refl
ignore_alike taken (Some r) file key = refl

rejected_alike : (taken : List EntryId) (o : Option Licensing) (g : Graph) (key : Key)
    → (rejected_diag_in (option_map (cut_licensing taken) o) g key).severity ≡ (rejected_diag_in o g key).severity
unfolding rejected_diag
rejected_alike taken None g key = refl
rejected_alike taken (Some l) g key = refl

allowance_alike : (taken : List EntryId) (o : Option Licensing) (file : ℕ) (key : Key)
    → (not_encountered_diag_in (option_map (cut_licensing taken) o) file key).severity
    ≡ (not_encountered_diag_in o file key).severity
unfolding not_encountered_diag
allowance_alike taken None file key = refl
allowance_alike taken (Some l) file key = refl

-- a severity by what a policy says of builds
pub built_alike : (taken : List EntryId) (message rest : Building → Message) (o : Option Building)
    → ((b : Building) → o ≡ Some b → (rest (cut_building taken b)).severity ≡ (message b).severity)
    → (option_map_or rest (option_map (cut_building taken) o) not_built).severity
    ≡ (option_map_or message o not_built).severity
built_alike taken message rest None each = refl
built_alike taken message rest (Some b) each = each b refl

-- a mismatch of a checksum has one level, with the entries and without
abbrev pub MismatchAlike : Circumstances → List EntryId → Key → Type 0
MismatchAlike c taken key = key.code ≡ Bans code.ChecksumMismatch → (b : Building) → c.building ≡ Some b
    → mismatch_severity (cut_building taken b) key ≡ mismatch_severity b key

-- ---- severities of licences

pub licensed_alike : (d : LicenseCode) (taken : List EntryId) (o : Option Licensing) (g : Graph) (file : ℕ) (key : Key)
    → (message_licensed d (option_map (cut_licensing taken) o) g file key).severity
    ≡ (message_licensed d o g file key).severity
unfolding message_licensed
licensed_alike license.Accepted taken o g file key = refl
licensed_alike license.Rejected taken o g file key = rejected_alike taken o g key
licensed_alike license.Unlicensed taken o g file key = refl
licensed_alike license.ParseError taken o g file key = refl
licensed_alike license.SkippedPrivateWorkspaceCrate taken o g file key = refl
licensed_alike license.LicenseNotEncountered taken o g file key = allowance_alike taken o file key
licensed_alike license.LicenseExceptionNotEncountered taken o g file key = refl
