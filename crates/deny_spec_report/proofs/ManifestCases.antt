-- Manifests and shared entries of worked cases.
use Rattle.std.proofs.Common.{◌+◌, ℕ, List, [], ◌∷◌, true, false, None, Some, codes}
use Rattle.std.specs.Prelude.{⊤}
use Rattle.std.specs.Fmt.{digits}
use Rattle.semver.specs.declared.Op.TheVariants.{Exact}
use Rattle.deny_base.specs.declared.edge.DepKind.{DepKind}
use Rattle.deny_base.specs.declared.edge.DepKind.TheVariants.{Normal}
use Rattle.deny_spec.specs.Graph.{Any, Crate, CratesIo, Dependency, Git, Graph, Registry, Source, Sparse}
use Rattle.deny_spec.specs.View.{Declared, Manifest, View, WorkspaceEntry}
use Rattle.deny_spec_report.proofs.Cases.{app, crate, on_cases, span, spanned_at}

-- ---- crates, by where they come from

unfoldable pub from : Source → Crate → Crate
from source c = record c { source = Some source }

unfoldable pub x_of_crates_io : Crate
x_of_crates_io = from (CratesIo false) (crate 1 (codes "x") 1)

unfoldable pub y_of_a_registry : Crate
y_of_a_registry = from (Registry (codes "a")) (crate 2 (codes "y") 1)

unfoldable pub z_of_a_folder : Crate
z_of_a_folder = crate 3 (codes "z") 1

unfoldable pub w_of_a_repository : Crate
w_of_a_repository = from (Git (codes "b") Any None) (crate 4 (codes "w") 1)

unfoldable pub v_of_a_sparse_registry : Crate
v_of_a_sparse_registry = from (Sparse (codes "c")) (crate 5 (codes "v") 1)

-- a first crate, which is a member, and a crate of each origin
unfoldable pub behind : Crate → Graph
behind first = record {
  root = [];
  crates = first ∷ x_of_crates_io ∷ y_of_a_registry ∷ z_of_a_folder ∷ w_of_a_repository ∷ v_of_a_sparse_registry ∷ [];
  members = 0 ∷ [];
  edges = [];
  target_edges = [];
}

-- two members, and one of each behind them
unfoldable pub two_members : Graph
two_members = record (behind app) { members = 0 ∷ 3 ∷ [] }

-- ---- declarations

-- a declaration with a requirement that any version meets
unfoldable pub any_version : Dependency
any_version = record {
  name = [];
  req = [];
  kind = Normal;
  rename = None;
  target = None;
  path = None;
  features = [];
  uses_default_features = true;
}

unfoldable pub one_version : Dependency
one_version = record any_version { req = (Exact, 1, Some 0, Some 0, []) ∷ [] }

unfoldable pub of_kind : DepKind → Dependency → Dependency
of_kind kind d = record d { kind = kind }

-- a declaration that resolves to the crate at a place, by where its key begins; its value begins 10 bytes later
unfoldable pub written : Dependency → ℕ → ℕ → Declared
written d child start = record {
  index = 0;
  declaration = d;
  child = child;
  key = span start;
  value = span (start + 10);
  version_req = None;
  workspace = None;
  rename = None;
}

-- a declaration that says whether the workspace declares the dependency, 20 bytes later
unfoldable pub sharing_it : Declared → Declared
sharing_it d = record d { workspace = Some (record { value = true; span = span (d.key.start + 20) }) }

unfoldable pub not_sharing_it : Declared → Declared
not_sharing_it d = record d { workspace = Some (record { value = false; span = span (d.key.start + 20) }) }

-- a declaration with the version that it asks for, 30 bytes later; and below, with a rename, 40 bytes later
unfoldable pub with_version : Declared → Declared
with_version d = record d { version_req = Some (record { value = []; span = span (d.key.start + 30) }) }

unfoldable pub with_rename : Declared → Declared
with_rename d = record d { rename = Some (spanned_at [] (d.key.start + 40)) }

-- ---- manifests, and the workspace's

unfoldable pub manifest_in : ℕ → List Declared → Manifest
manifest_in file deps = record { file = file; deps = deps; ignored = [] }

-- the first crate's manifest is file 4, and the workspace's is file 7, which declares nothing
unfoldable pub seeing : List Declared → View
seeing deps = record {
  manifests = Some (manifest_in 4 deps) ∷ [];
  workspace = Some 7;
  shared = [];
  unused = [];
}

-- an entry by where its key begins; its value begins 10 bytes later
unfoldable pub entry_from : ℕ → WorkspaceEntry
entry_from start = record {
  key = span start;
  value = span (start + 10);
  version = None;
  rename = None;
  patched = None;
  place = None;
}

unfoldable pub entry_with_version : WorkspaceEntry → WorkspaceEntry
entry_with_version e = record e { version = Some (record { value = []; span = span (e.key.start + 30) }) }

unfoldable pub entry_with_rename : WorkspaceEntry → WorkspaceEntry
entry_with_rename e = record e { rename = Some (spanned_at [] (e.key.start + 40)) }

unfoldable pub entry_patched : WorkspaceEntry → WorkspaceEntry
entry_patched e = record e { patched = Some (span (e.key.start + 50)) }

-- `x` comes from the entry
unfoldable pub sharing_x : WorkspaceEntry → View → View
sharing_x e view = record view { shared = None ∷ Some (record e { place = Some 1 }) ∷ [] }

-- ---- what a row unfolds

unfoldable pub manifests_on_cases : ⊤
unfolding on_cases digits from x_of_crates_io y_of_a_registry z_of_a_folder w_of_a_repository v_of_a_sparse_registry
    behind two_members any_version one_version of_kind written sharing_it not_sharing_it with_version
    with_rename
    manifest_in seeing entry_from entry_with_version entry_with_rename entry_patched sharing_x
manifests_on_cases = tt
