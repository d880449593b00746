-- What is read from a table, key by key, and the faults of the table. A `Field` describes a key: its name, and the
-- faults where the table holds a value at the key or leaves it out.
use Rattle.std.specs.Prelude.{◌≡◌, ℕ, Bool, true, ◌&&◌, not, List, [], ◌∷◌, ◌++◌, filter, map, Option, None, Some}
use Rattle.std.specs.Cmp.Lexicographic.{pointwise}
use Rattle.std.specs.Prelude.{nat_eq}
use Rattle.deny_base.specs.declared.span.Span.{Span}
use Rattle.deny_toml.specs.error.ConfigFault.{ConfigFault}
use Rattle.deny_toml.specs.Key.{Key}
use Rattle.deny_toml.specs.value.Value.{Value}
use Rattle.deny_toml.specs.value.Table.{Table}
use Rattle.deny_toml.specs.Value.{span_in, entries_in}
use Rattle.deny_toml.specs.Calls.{has_name, table_in, value_at, without}
use Rattle.deny_toml.specs.Faults.{wrong_kind, in_order}
use Rattle.deny_toml.specs.TableHelper.{required_faults, optional_faults, unknown}
use Rattle.deny_toml.specs.declared.table_helper.TableHelper.{TableHelper}
use Rattle.deny_cfg_entries.specs.declared.policy_key.PolicyKey.{PolicyKey}
use Rattle.deny_cfg_entries.specs.PolicyKey.{name_of}
use Rattle.deny_cfg_entries.specs.Words.{Kind}

abbrev pub Entries : Type 0
Entries = List (Key × Value)

-- a key of a table: its name, and its faults, given the span of the table and its value at the key
pub record Field : Type 0 where
  pub name : List ℕ
  pub faults : Span → Option Value → List ConfigFault

-- a key that may be left out
abbrev pub optional : PolicyKey → (Value → List ConfigFault) → Field
optional key faults_of = record { name = name_of key; faults = λ span v. optional_faults faults_of (name_of key) v }

-- a key that has to be there
abbrev pub required : PolicyKey → (Value → List ConfigFault) → Field
required key faults_of =
    record { name = name_of key; faults = λ span v. required_faults faults_of span (name_of key) v }

-- the value of a table at a key
abbrev pub at_key : PolicyKey → Entries → Option Value
at_key key entries = value_at (name_of key) entries

-- the faults of some keys, one key after another
abbrev pub faults_of_fields : List Field → Span → Entries → List ConfigFault
faults_of_fields [] span entries = []
faults_of_fields (f ∷ fs) span entries = f.faults span (value_at f.name entries) ++ faults_of_fields fs span entries

-- whether a name differs from the names of all these keys
abbrev pub is_other : List ℕ → List Field → Bool
is_other name [] = true
is_other name (f ∷ fs) = not (pointwise nat_eq name f.name) && is_other name fs

-- the keys of a table that have the name of an earlier key, once for each earlier one; a table read from a text has
-- none of them
abbrev pub repeated : Entries → Entries
repeated [] = []
repeated (e ∷ es) = filter (has_name e.0.name) es ++ repeated es

-- the unknown keys of a table that may have these keys alone: those of other names, and those that occur twice
abbrev pub unknown_keys : List Field → Entries → Entries
unknown_keys fields entries = filter (λ e. is_other e.0.name fields) entries ++ repeated entries

-- the faults of a value that is to be a table of these keys alone: those of each key, and one for each unknown key
abbrev pub faults_in_table : (Entries → List Field) → Span → Option Table → List ConfigFault
faults_in_table fields span None = wrong_kind span
faults_in_table fields span (Some t) =
    in_order (faults_of_fields (fields (entries_in t)) span (entries_in t)
    ++ map unknown (unknown_keys (fields (entries_in t)) (entries_in t)))

abbrev pub faults_of_table : (Entries → List Field) → Value → List ConfigFault
faults_of_table fields v = faults_in_table fields (span_in v) (table_in v)

-- what is read from a value that is a table
abbrev pub ReadsIn : {T : Type 0} → (Entries → T → Type 0) → Option Table → T → Type 0
ReadsIn Reads None x = ⊥
ReadsIn Reads (Some t) x = Reads (entries_in t) x

abbrev pub ReadsTable : {T : Type 0} → (Entries → T → Type 0) → Value → T → Type 0
ReadsTable Reads v x = ReadsIn Reads (table_in v) x

-- what is read at a key that may be left out: nothing, or what is read from its value
abbrev pub ReadsIfThere : {T : Type 0} → (Value → T → Type 0) → Option Value → Option T → Type 0
ReadsIfThere Reads None read = read ≡ None
ReadsIfThere Reads (Some v) None = ⊥
ReadsIfThere Reads (Some v) (Some x) = Reads v x

-- what is read at a key that may be left out and has a default
abbrev pub ReadsOr : {T : Type 0} → T → (Value → T → Type 0) → Option Value → T → Type 0
ReadsOr default Reads None x = x ≡ default
ReadsOr default Reads (Some v) x = Reads v x

-- what is read at a key that has to be there
abbrev pub ReadsThere : {T : Type 0} → (Value → T → Type 0) → Option Value → T → Type 0
ReadsThere Reads None x = ⊥
ReadsThere Reads (Some v) x = Reads v x

-- ---- the keys of a table, and the parts of a value that are read from them

pub record TableKey (T : Type 0) : Type 1 where
  pub field : Field
  pub Says : Option Value → T → Type 0

-- a key that may be left out, from which an optional part of the value is read
abbrev pub may_hold : {T A : Type 0} → PolicyKey → Kind A → (T → Option A) → TableKey T
may_hold key kind part = record {
  field = optional key kind.faults_of;
  Says = λ v x. ReadsIfThere kind.Reads v (part x);
}

-- a key that may be left out and has a default, from which a part of the value is read
abbrev pub holds_or : {T A : Type 0} → A → PolicyKey → Kind A → (T → A) → TableKey T
holds_or default key kind part = record {
  field = optional key kind.faults_of;
  Says = λ v x. ReadsOr default kind.Reads v (part x);
}

-- a key that has to be there, from which a part of the value is read
abbrev pub must_hold : {T A : Type 0} → PolicyKey → Kind A → (T → A) → TableKey T
must_hold key kind part = record {
  field = required key kind.faults_of;
  Says = λ v x. ReadsThere kind.Reads v (part x);
}

-- a key whose value is not read
abbrev pub unread : {T : Type 0} → PolicyKey → TableKey T
unread key = record { field = optional key (λ v. []); Says = λ v x. Unit {0} }

abbrev pub fields_of : {T : Type 0} → List (TableKey T) → List Field
fields_of [] = []
fields_of (key ∷ keys) = key.field ∷ fields_of keys

abbrev pub EachSays : {T : Type 0} → List (TableKey T) → Entries → T → Type 0
EachSays [] entries x = Unit {0}
EachSays (key ∷ keys) entries x = key.Says (value_at key.field.name entries) x × EachSays keys entries x

-- a value is read from these keys of a table: each key gives its part of the value
pub record ReadsKeys {T : Type 0} (keys : List (TableKey T)) (entries : Entries) (x : T) : Type 0 where
  pub each : EachSays keys entries x

-- a table that has these keys and no others
abbrev pub a_table : {T : Type 0} → List (TableKey T) → Kind T
a_table keys = record { faults_of = faults_of_table (λ entries. fields_of keys); Reads = ReadsTable (ReadsKeys keys) }

-- ---- the steps of reading a table

-- whether no two of these keys have the same name
abbrev pub are_apart : List Field → Bool
are_apart [] = true
are_apart (f ∷ fs) = is_other f.name fs && are_apart fs

-- two tables hold the same values at these keys
abbrev pub AreAlikeAt : List Field → Entries → Entries → Type 0
AreAlikeAt [] one other = Unit {0}
AreAlikeAt (f ∷ fs) one other = (value_at f.name one ≡ value_at f.name other) × AreAlikeAt fs one other

-- what is read from a table depends on its values at these keys alone
abbrev pub DependsOn : {T : Type 0} → List Field → (Entries → T → Type 0) → Type 0
DependsOn {T} fields Reads = (one other : Entries) (x : T) → AreAlikeAt fields one other → Reads one x → Reads other x

-- the state of reading a table: the entries that are not yet taken out, and the faults so far
pub record TableState : Type 0 where
  pub span : Span
  pub entries : Entries
  pub faults : List ConfigFault

abbrev pub state_of : TableHelper → TableState
state_of h = record { span = h.span; entries = h.entries; faults = h.faults }

-- the state after a key was taken out and read
abbrev pub after : Field → TableState → TableState
after f s =
    record {
      span = s.span;
      entries = without f.name s.entries;
      faults = s.faults
          ++ f.faults s.span (value_at f.name s.entries);
    }

-- the state after these keys were taken out and read, one after another
abbrev pub after_all : List Field → TableState → TableState
after_all [] s = s
after_all (f ∷ fs) s = after_all fs (after f s)

-- What a step that reads a key ensures: where the key has no fault, this holds of the value of the table at the key.
pub record ReadAt (f : Field) (s : TableState) (P : Option Value → Type 0) : Type 0 where
  pub says : f.faults s.span (value_at f.name s.entries) ≡ [] → P (value_at f.name s.entries)
