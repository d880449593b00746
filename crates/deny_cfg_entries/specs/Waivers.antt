-- Waivers: what entries give beside their spec that let something pass, of which each may count until a day alone.
use Rattle.std.specs.Prelude.{◌≡◌, ℕ, ℤ, List, [], ◌∷◌, Option, Some, option_and_then}
use Rattle.deny_toml.specs.error.ConfigFault.{ConfigFault}
use Rattle.deny_toml.specs.value.Value.{Value}
use Rattle.deny_toml.specs.Calls.{date_in, text_in}
use Rattle.deny_cfg_entries.specs.Day.{day_in}
use Rattle.deny_cfg_entries.specs.Entry.{ReadsEntry, ReadsSome, faults_of_entry}
use Rattle.deny_cfg_entries.specs.Reasons.{a_reason}
use Rattle.deny_cfg_entries.specs.Spec.{or_else}
use Rattle.deny_cfg_entries.specs.Table.{Entries, Field, ReadsKeys, TableKey, fields_of, may_hold}
use Rattle.deny_cfg_entries.specs.Words.{Kind, faults_of_text, spanned}
use Rattle.deny_cfg_entries.specs.declared.expiry.Expiry.{Expiry}
use Rattle.deny_cfg_entries.specs.declared.policy_key.PolicyKey.TheVariants as key
use Rattle.deny_cfg_entries.specs.declared.spec_or_extended.PackageSpecOrExtended.{PackageSpecOrExtended}
use Rattle.deny_cfg_entries.specs.declared.waiver.Waiver.{Waiver}

-- the text of a value that is a string, or a date or time
abbrev pub day_text : Value → Option (List ℕ)
day_text v = or_else (text_in v) (date_in v)

-- the number of the day that a value names
abbrev pub day_at : Value → Option ℤ
day_at v = option_and_then day_in (day_text v)

-- the faults of a day: a value that is neither string nor date is of the wrong kind, and another text is unreadable
abbrev pub faults_of_day : Value → List ConfigFault
faults_of_day v = faults_of_text day_in v (day_text v)

-- the last day is the one that the value names, with its text
abbrev pub ReadsExpiry : Value → Expiry → Type 0
ReadsExpiry v last = (day_text v ≡ Some last.written) × (day_in last.written ≡ Some last.day.0)

abbrev pub an_expiry : Kind Expiry
an_expiry = record { faults_of = faults_of_day; Reads = ReadsExpiry }

-- what an entry of `skip` or of `ignore` gives beside its spec
abbrev pub waiver_keys : List (TableKey Waiver)
waiver_keys =
    may_hold key.Reason a_reason (λ waiver. waiver.reason)
    ∷ may_hold key.Expires (spanned an_expiry) (λ waiver. waiver.expires)
    ∷ []

abbrev pub waiver_fields : List Field
waiver_fields = fields_of waiver_keys

abbrev pub ReadsWaiver : Entries → Waiver → Type 0
ReadsWaiver = ReadsKeys waiver_keys

abbrev pub faults_of_waived : Value → List ConfigFault
faults_of_waived = faults_of_entry waiver_fields

abbrev pub ReadsWaived : Value → PackageSpecOrExtended Waiver → Type 0
ReadsWaived v entry = ReadsEntry (ReadsSome waiver_fields ReadsWaiver) v entry.spec entry.inner

abbrev pub a_waived_entry : Kind (PackageSpecOrExtended Waiver)
a_waived_entry = record { faults_of = faults_of_waived; Reads = ReadsWaived }
