-- Reasons, and entries that give nothing but a reason beside their spec.
use Rattle.std.specs.Prelude.{List, [], ◌∷◌, Option}
use Rattle.deny_toml.specs.error.ConfigFault.{ConfigFault}
use Rattle.deny_toml.specs.value.Value.{Value}
use Rattle.deny_cfg_entries.specs.declared.policy_key.PolicyKey.TheVariants as key
use Rattle.deny_cfg_entries.specs.declared.reason.Reason.{Reason}
use Rattle.deny_cfg_entries.specs.declared.spec_or_extended.PackageSpecOrExtended.{PackageSpecOrExtended}
use Rattle.deny_cfg_entries.specs.Entry.{ReadsEntry, faults_of_entry}
use Rattle.deny_cfg_entries.specs.Table.{Entries, Field, optional, at_key, ReadsIfThere}
use Rattle.deny_cfg_entries.specs.Words.{Kind, faults_of_any_text, ReadsText, ReadsSpanned}

abbrev pub ReadsReason : Value → Reason → Type 0
ReadsReason v reason = ReadsSpanned ReadsText v reason.0

abbrev pub reason_fields : List Field
reason_fields = optional key.Reason faults_of_any_text ∷ []

abbrev pub ReadsReasonKey : Entries → Option Reason → Type 0
ReadsReasonKey entries reason = ReadsIfThere ReadsReason (at_key key.Reason entries) reason

-- an entry of `allow`
abbrev pub faults_of_reasoned : Value → List ConfigFault
faults_of_reasoned = faults_of_entry reason_fields

abbrev pub ReadsReasoned : Value → PackageSpecOrExtended Reason → Type 0
ReadsReasoned v entry = ReadsEntry ReadsReasonKey v entry.spec entry.inner

abbrev pub a_reason : Kind Reason
a_reason = record { faults_of = faults_of_any_text; Reads = ReadsReason }

abbrev pub a_reasoned_entry : Kind (PackageSpecOrExtended Reason)
a_reasoned_entry = record { faults_of = faults_of_reasoned; Reads = ReadsReasoned }
