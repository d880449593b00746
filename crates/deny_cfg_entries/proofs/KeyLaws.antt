-- The keys of a table that are read one after another, and what each of them gives for the whole table.
use Rattle.std.proofs.lemmas.Bool.{and_parts}
use Rattle.std.proofs.Common.{◌≡◌, Bool, true, false, List, [], ◌∷◌, Option, Some, refl, sym, ap, subst, ◌∙◌}
use Rattle.std.specs.Cmp.Lexicographic.{pointwise}
use Rattle.std.specs.Prelude.{nat_eq, option_map, IsSomeAnd}
use Rattle.deny_toml.specs.Calls.{value_at}
use Rattle.deny_toml.specs.value.Value.{Value}
use Rattle.deny_cfg_entries.specs.PolicyKey.{name_of}
use Rattle.deny_cfg_entries.specs.Table.{AreAlikeAt, EachSays, Entries, Field, ReadAt, ReadsIfThere, ReadsKeys}
use Rattle.deny_cfg_entries.specs.Table.{TableState, TableKey, after, are_apart, faults_of_fields, fields_of, is_other}
use Rattle.deny_cfg_entries.specs.declared.policy_key.PolicyKey.{PolicyKey}
use Rattle.deny_cfg_entries.proofs.TableLaws.{alike-itself, alike-trans, alike-without, none_first, none_rest}
use Rattle.deny_cfg_entries.proofs.TableLaws.{optional_mapped}

-- A proof that these keys are read one after another from this state on, with what each step reads.
pub data KeySteps {T : Type 0} (x : T) : List (TableKey T) → TableState → Type 1 where
  all_read : {s : TableState} → KeySteps x [] s
  ◌▷◌ : {key : TableKey T} {keys : List (TableKey T)} {s next : TableState}
      → (next ≡ after key.field s) × ReadAt key.field s (λ v. key.Says v x)
      → KeySteps x keys next → KeySteps x (key ∷ keys) s

infixr 4 ◌▷◌
-- what is read at a key without a fault, where the table still holds the value of the whole table at the key
read_here : (f : Field) (start s : TableState) (P : Option Value → Type 0) → s.span ≡ start.span
    → value_at f.name s.entries ≡ value_at f.name start.entries
    → f.faults start.span (value_at f.name start.entries) ≡ []
    → ReadAt f s P → P (value_at f.name start.entries)
read_here f start s P span same none read =
    let faults = ap (λ p. f.faults p (value_at f.name s.entries)) span ∙ ap (f.faults start.span) same in
    subst P same (read.says (faults ∙ none))

read_each : {T : Type 0} (x : T) (keys : List (TableKey T)) (start s : TableState) → are_apart (fields_of keys) ≡ true
    → s.span ≡ start.span
    → AreAlikeAt (fields_of keys) s.entries start.entries
    → faults_of_fields (fields_of keys) start.span start.entries ≡ []
    → KeySteps x keys s → EachSays keys start.entries x
read_each x [] start s apart span alike none all_read = tt
read_each x (key ∷ keys) start s apart span alike none (◌▷◌ {next = next} step more) =
    let fs = fields_of keys in
    let parts = and_parts (is_other key.field.name fs) (are_apart fs) apart in
    let kept =
    subst (λ (t : TableState). AreAlikeAt fs t.entries s.entries) (sym step.0)
    (alike-without fs key.field.name s.entries parts.0) in
    let here = key.field.faults start.span (value_at key.field.name start.entries) in
    let rest = faults_of_fields fs start.span start.entries in (
      read_here key.field start s (λ v. key.Says v x) span alike.0 (none_first here rest none) step.1,
      read_each x keys start next parts.1 (ap (λ (t : TableState). t.span) step.0 ∙ span)
          (alike-trans fs next.entries s.entries start.entries kept alike.1) (none_rest here rest none) more,
    )

-- what is read from the keys of a table where none of them has a fault
pub read_table_keys : {T : Type 0} {x : T} (keys : List (TableKey T)) → are_apart (fields_of keys) ≡ true
    → (start : TableState) → KeySteps x keys start
    → faults_of_fields (fields_of keys) start.span start.entries ≡ [] → ReadsKeys keys start.entries x
read_table_keys {x = x} keys apart start steps none =
    record { each = read_each x keys start start apart refl (alike-itself (fields_of keys) start.entries) none steps }

-- a step that reads a value says so of that value
pub there : {T : Type 0} (f : Field) (s : TableState) (Reads : Option Value → T → Type 0) (o : Option T) (x : T)
    → o ≡ Some x → ReadAt f s (λ v. IsSomeAnd o (Reads v)) → ReadAt f s (λ v. Reads v x)
there f s Reads o x is read =
    record { says = λ none. subst (λ o. IsSomeAnd o (Reads (value_at f.name s.entries))) is (read.says none) }

-- a step that reads an optional value says so of a part of it
pub mapped : {S T : Type 0} (f : Field) (s : TableState) (Reads : Value → T → Type 0) (o : Option S) (part : S → T)
    (x : Option T) → x ≡ option_map part o
    → ReadAt f s (λ v. ReadsIfThere (λ w y. Reads w (part y)) v o) → ReadAt f s (λ v. ReadsIfThere Reads v x)
mapped f s Reads o part x is read = record {
  says =
      λ none. subst (ReadsIfThere Reads (value_at f.name s.entries)) (sym is)
      (optional_mapped Reads part (value_at f.name s.entries) o (read.says none));
}

-- ---- what is read at one key of the table

abbrev pub If : Bool → Type 0 → Type 0 → Type 0
If true A B = A
If false A B = B

abbrev pub SaysAt : {T : Type 0} → PolicyKey → List (TableKey T) → Entries → T → Type 0
SaysAt key [] entries x = Unit {0}
SaysAt key (table_key ∷ keys) entries x =
    If (pointwise nat_eq (name_of key) table_key.field.name) (table_key.Says (value_at table_key.field.name entries) x)
    (SaysAt key keys entries x)

one_of : (is : Bool) {A B : Type 0} → A → B → If is A B
one_of true a b = a
one_of false a b = b

says_each : {T : Type 0} (key : PolicyKey) (keys : List (TableKey T)) (entries : Entries) (x : T)
    → EachSays keys entries x → SaysAt key keys entries x
says_each key [] entries x says = tt
says_each key (table_key ∷ keys) entries x says =
    one_of (pointwise nat_eq (name_of key) table_key.field.name) says.0 (says_each key keys entries x says.1)

pub says_of : {T : Type 0} {keys : List (TableKey T)} {entries : Entries} {x : T} (key : PolicyKey)
    → ReadsKeys keys entries x → SaysAt key keys entries x
says_of {keys = keys} {entries = entries} {x = x} key reads = says_each key keys entries x reads.each
