-- Worked cases of how declarations resolve.
use Rattle.std.proofs.Common.{◌≡◌, ℕ, List, [], ◌∷◌, Option, Some, None, codes, refl}
use Rattle.std.specs.FinMap as finite
use Rattle.std.specs.Prelude.{true}
use Rattle.semver.specs.Parse.{Held}
use Rattle.semver.specs.declared.Op.TheVariants as op
use Rattle.deny_base.specs.Edge.{kind_number}
use Rattle.deny_base.specs.declared.edge.DepKind.{DepKind}
use Rattle.deny_base.specs.declared.edge.DepKind.TheVariants.{Normal, Dev, Build}
use Rattle.deny_spec.specs.Graph.{Crate, Dependency, Graph}
use Rattle.deny_spec.specs.Groups.{has_name}
use Rattle.deny_spec.specs.Resolution.{agreeing, resolution, suits}
use Rattle.deny_spec.specs.declared.target_edge.TargetEdge.{TargetEdge}

unfoldable pub crate : ℕ → List ℕ → ℕ → Crate
crate place name major = record {
  place = place;
  name = name;
  version = (major, 0, 0, [], []);
  id = name;
  source = None;
  source_text = None;
  license = None;
  manifest_path = codes "/Cargo.toml";
  publish = None;
  rust_version = None;
  features = finite.empty;
  targets = [];
  deps = [];
  enabled = [];
}

-- `app`, two versions of `x`, and `y`
graph : List TargetEdge → Graph
graph edges = record {
  root = [];
  crates = crate 0 (codes "app") 0 ∷ crate 1 (codes "x") 1 ∷ crate 2 (codes "x") 2 ∷ crate 3 (codes "y") 1 ∷ [];
  members = 0 ∷ [];
  edges = [];
  target_edges = edges;
}

to : ℕ → DepKind → Option (List ℕ) → TargetEdge
to child kind target = record { parent = 0; child = child; kind = kind; target = target }

unix : Option (List ℕ)
unix = Some (codes "cfg(unix)")

windows : Option (List ℕ)
windows = Some (codes "cfg(windows)")

caret : ℕ → List Held
caret major = (op.Caret, major, None, None, []) ∷ []

declared : List ℕ → List Held → DepKind → Option (List ℕ) → Dependency
declared name req kind target = record {
  name = name;
  req = req;
  kind = kind;
  rename = Some (codes "other");
  target = target;
  path = None;
  features = [];
  uses_default_features = true;
}

-- two targets with a version each: a declaration resolves to that of its own target, whatever its rename is
two_targets : Graph
two_targets = graph (to 1 Normal unix ∷ to 2 Normal windows ∷ [])

to_its_target : resolution two_targets 0 (declared (codes "x") [] Normal windows) ≡ Some 2
unfolding resolution agreeing suits has_name kind_number two_targets graph crate to unix windows declared
to_its_target = refl

-- a declaration resolves to the version of its own target even where its requirement matches the other version alone
to_its_target_first : resolution two_targets 0 (declared (codes "x") (caret 1) Normal windows) ≡ Some 2
unfolding resolution agreeing suits has_name kind_number two_targets graph crate to unix windows caret declared
to_its_target_first = refl

-- a declaration for a target that no edge names
no_target : resolution two_targets 0 (declared (codes "x") [] Normal None) ≡ None
unfolding resolution agreeing suits has_name kind_number two_targets graph crate to unix windows declared
no_target = refl

-- of two crates that agree with a declaration, the one whose version matches, and where none does the first by place
two_versions : Graph
two_versions = graph (to 1 Normal None ∷ to 2 Normal None ∷ [])

the_one_that_matches : resolution two_versions 0 (declared (codes "x") (caret 2) Normal None) ≡ Some 2
unfolding resolution agreeing suits has_name kind_number two_versions graph crate to caret declared
the_one_that_matches = refl

or_the_first : resolution two_versions 0 (declared (codes "x") (caret 3) Normal None) ≡ Some 1
unfolding resolution agreeing suits has_name kind_number two_versions graph crate to caret declared
or_the_first = refl

-- a declaration resolves along an edge of its own kind
two_kinds : Graph
two_kinds = graph (to 1 Normal None ∷ to 2 Build None ∷ [])

to_its_kind : resolution two_kinds 0 (declared (codes "x") (caret 1) Build None) ≡ Some 2
unfolding resolution agreeing suits has_name kind_number two_kinds graph crate to caret declared
to_its_kind = refl

no_such_kind : resolution two_kinds 0 (declared (codes "x") (caret 1) Dev None) ≡ None
unfolding resolution agreeing suits has_name kind_number two_kinds graph crate to caret declared
no_such_kind = refl

-- a declaration of a crate without edges, and one with a name that no edge leads to
not_its_own : resolution two_versions 3 (declared (codes "x") (caret 1) Normal None) ≡ None
unfolding resolution agreeing suits has_name kind_number two_versions graph crate to caret declared
not_its_own = refl

another_name : resolution two_versions 0 (declared (codes "y") (caret 1) Normal None) ≡ None
unfolding resolution agreeing suits has_name kind_number two_versions graph crate to caret declared
another_name = refl
