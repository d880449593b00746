-- Package specs: a name and an optional version requirement, as a policy writes them.
use Rattle.std.specs.Prelude.{◌≡◌, ℕ, ◌==◌, ◌&&◌, not, List, [], ◌∷◌, length, Option, None, Some, is_some}
use Rattle.std.specs.Prelude.{if◌then◌else◌}
use Rattle.std.specs.List.{position_or_len, before_first, after_first}
use Rattle.deny_base.specs.declared.span.Span.{Span}
use Rattle.deny_toml.specs.error.ConfigFault.{ConfigFault}
use Rattle.deny_toml.specs.value.Value.{Value}
use Rattle.deny_toml.specs.Value.{span_in, span_of}
use Rattle.deny_toml.specs.Calls.{is_verbatim, text_in}
use Rattle.deny_cfg_entries.specs.declared.package_spec.PackageSpec.{PackageSpec}
use Rattle.deny_cfg_entries.specs.declared.policy_key.PolicyKey.TheVariants as key
use Rattle.deny_cfg_entries.specs.Requirement.{is_readable, requirement_text}
use Rattle.deny_cfg_entries.specs.Table.{Entries, Field, ReadsKeys, ReadsTable, TableKey, at_key, faults_of_table}
use Rattle.deny_cfg_entries.specs.Table.{fields_of, may_hold, must_hold, optional, required}
use Rattle.deny_cfg_entries.specs.Words.{Kind, a_word, faults_as, faults_of_meaning, spanned}

-- the text before and behind the first place of a byte; none where the byte is not in the text
abbrev pub divided_at : ℕ → List ℕ → Option (List ℕ × List ℕ)
divided_at divider text =
    if position_or_len (λ b. b == divider) text == length text then None
    else Some (before_first (λ b. b == divider) text, after_first (λ b. b == divider) text)

abbrev pub or_else : {A : Type 0} → Option A → Option A → Option A
or_else None other = other
or_else (Some x) other = Some x

-- a name and a requirement: the first `@` divides them, or else the first `:`
unfoldable pub divided : List ℕ → Option (List ℕ × List ℕ)
divided text = or_else (divided_at 64 text) (divided_at 58 text)

abbrev pub parts_or : Option (List ℕ × List ℕ) → List ℕ → List ℕ × Option (List ℕ)
parts_or None text = (text, None)
parts_or (Some parts) text = (parts.0, Some parts.1)

-- a text as a name: any text that is not empty
unfoldable pub name_in : List ℕ → Option (List ℕ)
name_in text = if length text == 0 then None else Some text

abbrev pub checked : List ℕ × Option (List ℕ) → Option (List ℕ × Option (List ℕ))
checked parts = if not (length parts.0 == 0) && is_readable parts.1 then Some parts else None

-- the name and the requirement's text that a text writes as a spec: the name is not empty, and semver reads the
-- requirement
unfoldable pub spec_in : List ℕ → Option (List ℕ × Option (List ℕ))
spec_in text = checked (parts_or (divided text) text)

-- The span of the name: its own bytes where the string is on one line and has no escape, so that each byte stands for
-- itself; else the span of the string.
abbrev pub name_span : Value → List ℕ → Span
name_span v name = if is_verbatim v then span_of (span_in v).start (length name) else span_in v

-- the name of a spec and the text of its requirement
abbrev pub parts_in : PackageSpec → List ℕ × Option (List ℕ)
parts_in spec = (spec.name.value, spec.req_text)

abbrev pub named : List ℕ → Option (List ℕ) → Option (List ℕ × Option (List ℕ))
named name req_text = if length name == 0 then None else Some (name, req_text)

-- what is read from a text as a spec
abbrev pub ReadsSpecOf : Option (List ℕ) → Value → PackageSpec → Type 0
ReadsSpecOf None v spec = ⊥
ReadsSpecOf (Some text) v spec = (spec_in text ≡ Some (parts_in spec)) × (spec.name.span ≡ name_span v spec.name.value)

abbrev pub ReadsSpecText : Value → PackageSpec → Type 0
ReadsSpecText v spec = ReadsSpecOf (text_in v) v spec

-- the keys of a spec: `crate` where the table has it, else `name` and the optional `version`
abbrev pub crate_fields : List Field
crate_fields = optional key.Crate (faults_as spec_in) ∷ []

abbrev pub name_field : Field
name_field = required key.Name (faults_as name_in)

abbrev pub name_keys : List (TableKey PackageSpec)
name_keys =
    must_hold key.Name (spanned (a_word name_in)) (λ spec. spec.name)
    ∷ may_hold key.Version (a_word requirement_text) (λ spec. spec.req_text)
    ∷ []

abbrev pub name_fields : List Field
name_fields = fields_of name_keys

abbrev pub spec_fields : Entries → List Field
spec_fields entries = if is_some (at_key key.Crate entries) then crate_fields else name_fields

abbrev pub ReadsName : Entries → PackageSpec → Type 0
ReadsName = ReadsKeys name_keys

-- what is read from the keys of a spec, given the value at `crate`
abbrev pub ReadsSpecBy : Option Value → Entries → PackageSpec → Type 0
ReadsSpecBy None entries spec = ReadsName entries spec
ReadsSpecBy (Some v) entries spec = ReadsSpecText v spec

abbrev pub ReadsSpecKeys : Entries → PackageSpec → Type 0
ReadsSpecKeys entries spec = ReadsSpecBy (at_key key.Crate entries) entries spec

-- the faults of a spec, which is a text or a table of the keys of a spec
abbrev pub faults_of_spec_by : Option (List ℕ) → Value → List ConfigFault
faults_of_spec_by None v = faults_of_table spec_fields v
faults_of_spec_by (Some text) v = faults_of_meaning v (spec_in text)

abbrev pub faults_of_spec : Value → List ConfigFault
faults_of_spec v = faults_of_spec_by (text_in v) v

abbrev pub ReadsSpecValue : Option (List ℕ) → Value → PackageSpec → Type 0
ReadsSpecValue None v spec = ReadsTable ReadsSpecKeys v spec
ReadsSpecValue (Some text) v spec = ReadsSpecText v spec

abbrev pub ReadsSpec : Value → PackageSpec → Type 0
ReadsSpec v spec = ReadsSpecValue (text_in v) v spec

abbrev pub a_spec : Kind PackageSpec
a_spec = record { faults_of = faults_of_spec; Reads = ReadsSpec }
