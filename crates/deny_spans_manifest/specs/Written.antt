-- The declarations that a manifest writes, and where a declaration of the metadata is found among them.
use Rattle.std.specs.Prelude.{ℕ, ◌==◌, ◌&&◌, ◌++◌, ◌∷◌, [], Bool, List, None, Option, Some, codes, find, map}
use Rattle.std.specs.Prelude.{option_map, unwrap_or}
use Rattle.std.specs.List.{flat_map}
use Rattle.std.specs.Option.{option_eq, option_map_or}
use Rattle.deny_base.specs.Edge.{kind_number}
use Rattle.deny_base.specs.declared.edge.DepKind.{DepKind}
use Rattle.deny_base.specs.declared.edge.DepKind.TheVariants.{Build, Dev, Normal}
use Rattle.deny_spec.specs.Graph.{Dependency}
use Rattle.deny_spec.specs.Text.{same_text}
use Rattle.deny_toml.specs.Calls.{entry_at, table_in}
use Rattle.deny_toml.specs.Value.{entries_in}
use Rattle.deny_toml.specs.value.Value.{Value}
use Rattle.deny_toml.specs.Key.{Key}

-- the entries of a value in byte order of their keys; only a table has any
unfoldable pub entries_of : Value → List (Key × Value)
entries_of v = option_map_or entries_in (table_in v) []

-- the entries of the table at a key
abbrev pub entries_at : List ℕ → Value → List (Key × Value)
entries_at name v = option_map_or (λ e. entries_of e.1) (entry_at name (entries_of v)) []

-- the section that declares the dependencies of a kind
abbrev pub section_name : DepKind → List ℕ
section_name Normal = codes "dependencies"
section_name Dev = codes "dev-dependencies"
section_name Build = codes "build-dependencies"

abbrev pub kinds : List DepKind
kinds = Normal ∷ Dev ∷ Build ∷ []

-- a declaration as it is written: for a target or for all, in the section of a kind, a key with its value
pub record Written : Type 0 where
  pub target : Option (List ℕ)
  pub kind : DepKind
  pub key : Key
  pub value : Value

abbrev pub written_with : Option (List ℕ) → DepKind → Key × Value → Written
written_with target kind entry = record { target = target; kind = kind; key = entry.0; value = entry.1 }

abbrev pub entry_in : Written → Key × Value
entry_in w = (w.key, w.value)

-- the declarations in the section of a kind
abbrev pub section_in : Option (List ℕ) → Value → DepKind → List Written
section_in target v kind = map (written_with target kind) (entries_at (section_name kind) v)

unfoldable pub sections_in : Option (List ℕ) → Value → List Written
sections_in target v = flat_map (section_in target v) kinds

abbrev pub of_target : Key × Value → List Written
of_target entry = sections_in (Some entry.0.name) entry.1

-- all declarations of a manifest: those for all targets, and then those under each target key, in byte order of the
-- keys
unfoldable pub written_in : Value → List Written
written_in tree = sections_in None tree ++ flat_map of_target (entries_at (codes "target") tree)

-- the key that a declaration has in its section
abbrev pub key_name : Dependency → List ℕ
key_name d = unwrap_or d.rename d.name

-- `agrees` tests whether target keys agree
module _ (agrees : List ℕ → List ℕ → Bool) where
  -- whether a written declaration is one of the metadata: for all targets or under a target key that agrees with its
  -- own, in the section of its kind, under its key
  unfoldable pub declares : Dependency → Written → Bool
  declares d w = option_eq agrees w.target d.target && (kind_number d.kind == kind_number w.kind
      && same_text (key_name d) w.key.name)

  -- the entry that writes a declaration: the first, and so the one under the first target key that agrees and whose
  -- section has it
  unfoldable pub found_in : Value → Dependency → Option (Key × Value)
  found_in tree d = option_map entry_in (find (declares d) (written_in tree))
