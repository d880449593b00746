-- Values that are read as texts with a meaning, and the words for levels and scopes.
use Rattle.std.specs.Prelude.{◌≡◌, ℕ, Bool, List, [], Option, None, Some, codes, option_and_then, if◌then◌else◌}
use Rattle.std.specs.Str.{bytes_eq}
use Rattle.deny_base.specs.declared.level.LintLevel.{LintLevel}
use Rattle.deny_base.specs.declared.level.LintLevel.TheVariants as level
use Rattle.deny_toml.specs.error.ConfigFault.{ConfigFault}
use Rattle.deny_toml.specs.value.Value.{Value}
use Rattle.deny_toml.specs.Value.{span_in}
use Rattle.deny_toml.specs.Calls.{array_in, text_in, bool_in, integer_in}
use Rattle.deny_toml.specs.Deserialize.{faults_of_kind, faults_of_small, small_number, faults_of_array, ReadsArray}
use Rattle.deny_base.specs.declared.span.Spanned.{Spanned}
use Rattle.deny_toml.specs.Faults.{wrong_kind, unreadable}
use Rattle.deny_cfg_entries.specs.declared.scope.Scope.{Scope}
use Rattle.deny_cfg_entries.specs.declared.scope.Scope.TheVariants as scope

-- the fault of a text without a meaning: it is unreadable
abbrev pub faults_of_meaning : {A : Type 0} → Value → Option A → List ConfigFault
faults_of_meaning v None = unreadable (span_in v)
faults_of_meaning v (Some x) = []

abbrev pub faults_of_text : {A : Type 0} → (List ℕ → Option A) → Value → Option (List ℕ) → List ConfigFault
faults_of_text meaning v None = wrong_kind (span_in v)
faults_of_text meaning v (Some text) = faults_of_meaning v (meaning text)

-- the faults of a value that is to be a text with a meaning: a value that is no text is of the wrong kind
abbrev pub faults_as : {A : Type 0} → (List ℕ → Option A) → Value → List ConfigFault
faults_as meaning v = faults_of_text meaning v (text_in v)

-- the meaning of a value that is a text
abbrev pub meaning_in : {A : Type 0} → (List ℕ → Option A) → Value → Option A
meaning_in meaning v = option_and_then meaning (text_in v)

abbrev pub ReadsAs : {A : Type 0} → (List ℕ → Option A) → Value → A → Type 0
ReadsAs meaning v x = meaning_in meaning v ≡ Some x

unfoldable pub level_of : List ℕ → Option LintLevel
level_of text =
    if bytes_eq text (codes "allow") then Some level.Allow
    else if bytes_eq text (codes "warn") then Some level.Warn
    else if bytes_eq text (codes "deny") then Some level.Deny
    else None

unfoldable pub scope_of : List ℕ → Option Scope
scope_of text =
    if bytes_eq text (codes "all") then Some scope.All
    else if bytes_eq text (codes "workspace") then Some scope.Workspace
    else if bytes_eq text (codes "transitive") then Some scope.Transitive
    else if bytes_eq text (codes "none") then Some scope.None
    else None

-- the faults of a boolean, and what is read from it
abbrev pub faults_of_bool : Value → List ConfigFault
faults_of_bool v = faults_of_kind v (bool_in v)

abbrev pub ReadsBool : Value → Bool → Type 0
ReadsBool v is_true = bool_in v ≡ Some is_true

-- the faults of a text, which may be any text, and what is read from it
abbrev pub faults_of_any_text : Value → List ConfigFault
faults_of_any_text v = faults_of_kind v (text_in v)

abbrev pub ReadsText : Value → List ℕ → Type 0
ReadsText v text = text_in v ≡ Some text

-- a value is read together with its span
abbrev pub ReadsSpanned : {T : Type 0} → (Value → T → Type 0) → Value → Spanned T → Type 0
ReadsSpanned Reads v read = (read.span ≡ span_in v) × Reads v read.value

-- an array of values of one kind
abbrev pub faults_of_list : (Value → List ConfigFault) → Value → List ConfigFault
faults_of_list faults_of v = faults_of_array faults_of v (array_in v)

abbrev pub ReadsList : {T : Type 0} → (Value → T → Type 0) → Value → List T → Type 0
ReadsList Reads v items = ReadsArray Reads (array_in v) items

-- an array of texts, each with its span
abbrev pub faults_of_texts : Value → List ConfigFault
faults_of_texts = faults_of_list faults_of_any_text

abbrev pub ReadsTexts : Value → List (Spanned (List ℕ)) → Type 0
ReadsTexts = ReadsList (ReadsSpanned ReadsText)

-- a number from 0 to below 2 ^ 32
abbrev pub faults_of_count : Value → List ConfigFault
faults_of_count v = faults_of_small v (integer_in v)

abbrev pub ReadsCount : Value → ℕ → Type 0
ReadsCount v number = option_and_then small_number (integer_in v) ≡ Some number

-- ---- kinds of values: the faults of a value that is to be of the kind, and what is read from it

pub record Kind (A : Type 0) : Type 1 where
  pub faults_of : Value → List ConfigFault
  pub Reads : Value → A → Type 0

abbrev pub a_word : {A : Type 0} → (List ℕ → Option A) → Kind A
a_word meaning = record { faults_of = faults_as meaning; Reads = ReadsAs meaning }

abbrev pub a_level : Kind LintLevel
a_level = a_word level_of

abbrev pub a_scope : Kind Scope
a_scope = a_word scope_of

abbrev pub a_flag : Kind Bool
a_flag = record { faults_of = faults_of_bool; Reads = ReadsBool }

abbrev pub a_text : Kind (List ℕ)
a_text = record { faults_of = faults_of_any_text; Reads = ReadsText }

abbrev pub a_count : Kind ℕ
a_count = record { faults_of = faults_of_count; Reads = ReadsCount }

abbrev pub spanned : {A : Type 0} → Kind A → Kind (Spanned A)
spanned kind = record { faults_of = kind.faults_of; Reads = ReadsSpanned kind.Reads }

abbrev pub a_list : {A : Type 0} → Kind A → Kind (List A)
a_list kind = record { faults_of = faults_of_list kind.faults_of; Reads = ReadsList kind.Reads }

abbrev pub some_texts : Kind (List (Spanned (List ℕ)))
some_texts = a_list (spanned a_text)
