-- The declarations of a manifest by target, kind and key.
use Rattle.std.specs.Prelude.{ℕ, ◌++◌, Bool, List, None, Option, Some, codes, map}
use Rattle.std.specs.Borrow.{Bor}
use Rattle.std.specs.Cmp.Lexicographic.{slice_cmp}
use Rattle.std.specs.List.{flat_map}
use Rattle.std.specs.Option.{option_cmp, option_copied}
use Rattle.std.specs.Ordering.{eq_by_cmp, nat_cmp, on, then_cmp}
use Rattle.std.specs.declared.cmp.Ordering.{Ordering}
use Rattle.deny_base.specs.Edge.{kind_cmp}
use Rattle.deny_base.specs.declared.edge.DepKind.{DepKind}
use Rattle.deny_base_lists.specs.First.{FindsFirst}
use Rattle.deny_spans_manifest.specs.Agreement.{ReportsAgreement}
use Rattle.deny_spans_manifest.specs.Written.{entries_at, kinds, section_name}
use Rattle.deny_spans_manifest.specs.declared.firsts.Firsts.{Firsts}
use Rattle.deny_spans_manifest.specs.declared.sections.SectionKey.{SectionKey}
use Rattle.deny_spans_manifest.specs.declared.sections.Sections.{Sections}
use Rattle.deny_spans_manifest.specs.private.Firsts.{first_at}
use Rattle.deny_spans_manifest.specs.private.Targets.{NumbersTargets, number_of}
use Rattle.deny_toml.specs.Key.{Key}
use Rattle.deny_toml.specs.value.Value.{Value}

-- an entry of a section with its section key
abbrev pub KeyedEntry : Type 0
KeyedEntry = SectionKey × (Key × Value)

abbrev pub section_key_cmp : SectionKey → SectionKey → Ordering
section_key_cmp = then_cmp (on (λ p. p.target) (option_cmp nat_cmp))
    (then_cmp (on (λ p. p.kind) kind_cmp) (on (λ p. p.name) (slice_cmp nat_cmp)))

-- the entry that the index finds at a section key
abbrev pub entry_found : Firsts SectionKey (Bor (Key × Value)) → SectionKey → Option (Key × Value)
entry_found entries section_key = option_copied (first_at section_key_cmp entries section_key)

abbrev pub FindsKeyed : List KeyedEntry → Firsts SectionKey (Bor (Key × Value)) → Type 0
FindsKeyed keyed entries = FindsFirst (eq_by_cmp section_key_cmp) keyed (entry_found entries)

abbrev pub keyed_at : Option ℕ → DepKind → Key × Value → KeyedEntry
keyed_at target kind entry = (record { target = target; kind = kind; name = entry.0.name }, entry)

abbrev pub kind_keyed : Option ℕ → Value → DepKind → List KeyedEntry
kind_keyed target v kind = map (keyed_at target kind) (entries_at (section_name kind) v)

-- the entries of all kinds, for all targets or for the target of a number
unfoldable pub sections_keyed : Option ℕ → Value → List KeyedEntry
sections_keyed target v = flat_map (kind_keyed target v) kinds

-- the entries under a target key, which `number` gives a number
abbrev pub target_keyed : (List ℕ → ℕ) → Key × Value → List KeyedEntry
target_keyed number entry = sections_keyed (Some (number entry.0.name)) entry.1

unfoldable pub targets_keyed : (List ℕ → ℕ) → List (Key × Value) → List KeyedEntry
targets_keyed number entries = flat_map (target_keyed number) entries

abbrev pub target_entries : Value → List (Key × Value)
target_entries tree = entries_at (codes "target") tree

abbrev pub target_keys : Value → List (List ℕ)
target_keys tree = map (λ e. e.0.name) (target_entries tree)

-- the index of a manifest's tree: its targets are numbered, and each lookup finds the first entry with the section key
pub record IsIndexOf (tree : Value) (sections : Sections) : Type 0 where
  pub targets : NumbersTargets (target_keys tree) sections.targets
  pub entries : (agrees : List ℕ → List ℕ → Bool) → ReportsAgreement agrees
      → FindsKeyed (sections_keyed None tree
      ++ targets_keyed (number_of agrees (target_keys tree)) (target_entries tree)) sections.entries
