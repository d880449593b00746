-- Licence requirements in a policy: each text is exactly one requirement.
use Rattle.std.specs.Prelude.{List}
use Rattle.deny_base.specs.declared.span.Spanned.{Spanned}
use Rattle.deny_spdx.specs.declared.requirement.Requirement.{Requirement}
use Rattle.deny_spdx.specs.Meaning.{requirement_in}
use Rattle.deny_toml.specs.error.ConfigFault.{ConfigFault}
use Rattle.deny_toml.specs.value.Value.{Value}
use Rattle.deny_cfg_entries.specs.Words.{Kind, ReadsAs, ReadsList, ReadsSpanned, faults_as, faults_of_list}
use Rattle.deny_cfg_entries.specs.declared.licence.Licence.{Licence}

abbrev pub licence_requirement : Spanned Licence → Spanned Requirement
licence_requirement licence = record { value = licence.value.0; span = licence.span }

-- an array of licences, each with its span
abbrev pub faults_of_licences : Value → List ConfigFault
faults_of_licences = faults_of_list (faults_as requirement_in)

abbrev pub ReadsLicences : Value → List (Spanned Requirement) → Type 0
ReadsLicences = ReadsList (ReadsSpanned (ReadsAs requirement_in))

abbrev pub some_licences : Kind (List (Spanned Requirement))
some_licences = record { faults_of = faults_of_licences; Reads = ReadsLicences }
