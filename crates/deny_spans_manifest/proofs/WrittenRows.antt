-- Worked cases of manifests, and of where declarations are found in them.
use Rattle.std.proofs.Common.{◌≡◌, ℕ, Bool, List, [], ◌∷◌, Option, None, Some, true, codes, map, rules}
use Rattle.std.specs.Prelude.{option_map, ◌&&◌, ◌||◌}
use Rattle.std.specs.FinMap as finite
use Rattle.deny_base.specs.Edge.{kind_number}
use Rattle.deny_base.specs.declared.edge.DepKind.{DepKind}
use Rattle.deny_base.specs.declared.edge.DepKind.TheVariants.{Build, Dev, Normal}
use Rattle.deny_spans_manifest.proofs.Cases.{entry, table, text}
use Rattle.deny_spans_manifest.specs.Declarations.{declared_at, declared_in}
use Rattle.deny_spans_manifest.specs.Written.{declares, entries_of, found_in, sections_in, written_in}
use Rattle.deny_spec.specs.Graph.{Crate, Dependency, Graph}
use Rattle.deny_spec.specs.Groups.{has_name}
use Rattle.deny_spec.specs.Resolution.{agreeing, resolution, suits}
use Rattle.deny_spec.specs.Text.{same_text}
use Rattle.deny_spec.specs.declared.target_edge.TargetEdge.{TargetEdge}
use Rattle.deny_toml.specs.Key.{Key}
use Rattle.deny_toml.specs.value.Content.{the_lemmas}
use Rattle.deny_toml.specs.value.Value.{Value}

entries_of-table : (at : ℕ) (entries : List (Key × Value)) → entries_of (table at entries) ≡ entries
unfolding entries_of
entries_of-table at entries = search (rules, the_lemmas)

entries_of-text : (at : ℕ) (bytes : List ℕ) → entries_of (text at bytes) ≡ []
unfolding entries_of
entries_of-text at bytes = search (rules, the_lemmas)

-- two ways to write one target
unix : List ℕ
unix = codes "cfg(unix)"

spaced : List ℕ
spaced = codes "cfg( unix )"

abbrev is_unix : List ℕ → Bool
is_unix key = same_text key unix || same_text key spaced

-- the test of the cases: `unix` and its other spelling agree, and otherwise equal texts do
abbrev agrees : List ℕ → List ℕ → Bool
agrees one other = same_text one other || (is_unix one && is_unix other)

declared : List ℕ → Option (List ℕ) → DepKind → Option (List ℕ) → Dependency
declared name rename kind target = record {
  name = name;
  req = [];
  kind = kind;
  rename = rename;
  target = target;
  path = None;
  features = [];
  uses_default_features = true;
}

-- the byte offset of the key under which a declaration is found
abbrev key_at : Value → Dependency → Option ℕ
key_at tree d = option_map (λ entry. entry.0.span.start) (found_in agrees tree d)

section : ℕ → List ℕ → List (Key × Value) → Key × Value
section at name entries = entry at name (table at entries)

one_entry : ℕ → Key × Value
one_entry at = entry at (codes "x") (text at (codes "1"))

-- [dependencies] x, [dev-dependencies] y
plain : Value
plain = table 0 (section 1 (codes "dependencies") (one_entry 10 ∷ [])
    ∷ section 2 (codes "dev-dependencies") (entry 20 (codes "y") (text 24 (codes "1")) ∷ []) ∷ [])

by_name : key_at plain (declared (codes "x") None Normal None) ≡ Some 10
unfolding found_in declares written_in sections_in kind_number plain section one_entry declared
by_name = simp entries_of-table

-- a renamed declaration is found under its new name, and not under its own
by_rename : key_at plain (declared (codes "z") (Some (codes "x")) Normal None) ≡ Some 10
unfolding found_in declares written_in sections_in kind_number plain section one_entry declared
by_rename = simp entries_of-table

not_by_name : key_at plain (declared (codes "x") (Some (codes "z")) Normal None) ≡ None
unfolding found_in declares written_in sections_in kind_number plain section one_entry declared
not_by_name = simp entries_of-table

-- each kind has its own section
of_dev : key_at plain (declared (codes "y") None Dev None) ≡ Some 20
unfolding found_in declares written_in sections_in kind_number plain section one_entry declared
of_dev = simp entries_of-table

not_of_dev : key_at plain (declared (codes "x") None Dev None) ≡ None
unfolding found_in declares written_in sections_in kind_number plain section one_entry declared
not_of_dev = simp entries_of-table

not_of_build : key_at plain (declared (codes "x") None Build None) ≡ None
unfolding found_in declares written_in sections_in kind_number plain section one_entry declared
not_of_build = simp entries_of-table

-- a declaration for a target is found in the target's section alone
not_for_a_target : key_at plain (declared (codes "x") None Normal (Some unix)) ≡ None
unfolding found_in declares written_in sections_in kind_number plain section one_entry declared unix spaced
not_for_a_target = simp entries_of-table

-- [target."cfg( unix )".dependencies] x, [target."cfg(unix)".dependencies] x, [target.other.dependencies] x
targets : Value
targets = table 0 (section 1 (codes "target") (
    section 2 spaced (section 3 (codes "dependencies") (one_entry 30 ∷ []) ∷ [])
    ∷ section 4 unix (section 5 (codes "dependencies") (one_entry 50 ∷ []) ∷ [])
    ∷ section 6 (codes "other") (section 7 (codes "dependencies") (one_entry 70 ∷ []) ∷ [])
    ∷ []) ∷ [])

-- of two keys that agree the first in byte order is taken, even where the other is the text itself
first_target : key_at targets (declared (codes "x") None Normal (Some unix)) ≡ Some 30
unfolding found_in declares written_in sections_in kind_number targets section one_entry declared unix spaced
first_target = simp entries_of-table

other_target : key_at targets (declared (codes "x") None Normal (Some (codes "other"))) ≡ Some 70
unfolding found_in declares written_in sections_in kind_number targets section one_entry declared unix spaced
other_target = simp entries_of-table

no_target : key_at targets (declared (codes "x") None Normal (Some (codes "cfg(windows)"))) ≡ None
unfolding found_in declares written_in sections_in kind_number targets section one_entry declared unix spaced
no_target = simp entries_of-table

not_for_all : key_at targets (declared (codes "x") None Normal None) ≡ None
unfolding found_in declares written_in sections_in kind_number targets section one_entry declared unix spaced
not_for_all = simp entries_of-table

-- a key that agrees and whose table has no such entry is passed over
lacking : Value
lacking = table 0 (section 1 (codes "target") (
    section 2 spaced (section 3 (codes "build-dependencies") (one_entry 30 ∷ []) ∷ [])
    ∷ section 4 unix (section 5 (codes "dependencies") (one_entry 50 ∷ []) ∷ [])
    ∷ []) ∷ [])

later_target : key_at lacking (declared (codes "x") None Normal (Some unix)) ≡ Some 50
unfolding found_in declares written_in sections_in kind_number lacking section one_entry declared unix spaced
later_target = simp entries_of-table

build_of_a_target : key_at lacking (declared (codes "x") None Build (Some unix)) ≡ Some 30
unfolding found_in declares written_in sections_in kind_number lacking section one_entry declared unix spaced
build_of_a_target = simp entries_of-table

-- ---- the declarations of a crate

crate : ℕ → List ℕ → List Dependency → Crate
crate place name deps = record {
  place = place;
  name = name;
  version = (1, 0, 0, [], []);
  id = name;
  source = None;
  source_text = None;
  license = None;
  manifest_path = codes "/Cargo.toml";
  publish = None;
  rust_version = None;
  features = finite.empty;
  targets = [];
  deps = deps;
  enabled = [];
}

-- `y` for tests, an optional `q`, `x` twice, and `w`, which the manifest has not
app : Crate
app = crate 0 (codes "app")
    (declared (codes "y") None Dev None ∷ declared (codes "q") (Some (codes "x")) Normal None
    ∷ declared (codes "x") None Normal None ∷ declared (codes "w") None Normal None ∷ [])

to : ℕ → DepKind → TargetEdge
to child kind = record { parent = 0; child = child; kind = kind; target = None }

graph : Graph
graph = record {
  root = [];
  crates = app ∷ crate 1 (codes "w") [] ∷ crate 2 (codes "x") [] ∷ crate 3 (codes "y") [] ∷ [];
  members = 0 ∷ [];
  edges = [];
  target_edges = to 1 Normal ∷ to 2 Normal ∷ to 3 Dev ∷ [];
}

-- in the order of the declarations, without those that do not resolve or are not written
in_order : map {B = ℕ × ℕ × ℕ} (λ d. (d.index, d.child, d.key.start)) (declared_in agrees graph app plain)
    ≡ (0, 3, 20) ∷ (2, 2, 10) ∷ []
unfolding declared_at declared_in found_in declares written_in sections_in kind_number plain section one_entry declared
    resolution agreeing suits has_name graph app crate to
in_order = simp entries_of-table
