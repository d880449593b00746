-- Crates, graphs and manifests for worked cases.
use Rattle.std.proofs.Common.{ℕ, false, List, [], ◌∷◌, Option, Some, None, codes}
use Rattle.std.specs.FinMap as finite
use Rattle.semver.specs.Parse.{Held}
use Rattle.semver.specs.declared.Op.TheVariants.{Caret}
use Rattle.deny_base.specs.declared.span.Spanned.{Spanned}
use Rattle.deny_spec.specs.Graph.{Crate, Graph}
use Rattle.deny_spec.specs.Graph as model
use Rattle.deny_toml.specs.Key.{Key}
use Rattle.deny_toml.specs.value.Value.{Value}
use Rattle.deny_spans_manifest.proofs.Cases.{span, table, entry}

-- a crate of this version, from a source or from a folder
abbrev pub crate : ℕ → List ℕ → ℕ → Option model.Source → List ℕ → Crate
crate place name major source manifest_path = record {
  place = place;
  name = name;
  version = (major, 0, 0, [], []);
  id = name;
  source = source;
  source_text = None;
  license = None;
  manifest_path = manifest_path;
  publish = None;
  rust_version = None;
  features = finite.empty;
  targets = [];
  deps = [];
  enabled = [];
}

abbrev pub of_crates_io : ℕ → List ℕ → ℕ → Crate
of_crates_io place name major = crate place name major (Some (model.CratesIo false)) (codes "/r/x/Cargo.toml")

abbrev pub of_branch : ℕ → List ℕ → List ℕ → Crate
of_branch place name branch =
    crate place name 1 (Some (model.Git (codes "https://h.org/x") model.Branch (Some branch))) (codes "/g/x/Cargo.toml")

abbrev pub of_folder : ℕ → List ℕ → List ℕ → Crate
of_folder place name manifest_path = crate place name 1 None manifest_path

-- a workspace in the folder `/w`
abbrev pub graph : List Crate → Graph
graph crates = record { root = codes "/w"; crates = crates; members = []; edges = []; target_edges = [] }

-- the requirement that one number writes
abbrev pub from_major : ℕ → List Held
from_major major = (Caret, major, None, None, []) ∷ []

abbrev pub at : {A : Type 0} → ℕ → A → Option (Spanned A)
at place x = Some (record { value = x; span = span place })

-- a manifest with these entries, and these patches
abbrev pub manifest : List (Key × Value) → List (Key × Value) → Value
manifest dependencies patches = table 0
    (entry 1 (codes "patch") (table 2 (entry 3 (codes "crates-io") (table 4 patches) ∷ []))
    ∷ entry 5 (codes "workspace") (table 6 (entry 7 (codes "dependencies") (table 8 dependencies) ∷ [])) ∷ [])
