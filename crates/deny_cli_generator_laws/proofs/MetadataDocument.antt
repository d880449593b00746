-- The document that is read from the metadata.
use Rattle.std.proofs.Common.{ℕ, List, [], ◌∷◌, Some, None, true, codes, map}
use Rattle.deny_base.specs.declared.edge.DepKind.TheVariants.{Normal}
use Rattle.deny_cli_generator.specs.Made.{name_at, version_at}
use Rattle.deny_cli_generator.specs.MetadataText.{id_at, path_text, registry}
use Rattle.deny_krates_metadata.specs.declared.declaration.Declaration.{Declaration}
use Rattle.deny_krates_metadata.specs.declared.document.Document.{Document}
use Rattle.deny_krates_metadata.specs.declared.node.NodeDependency.{NodeDependency}
use Rattle.deny_krates_metadata.specs.declared.node.MetadataNode.{MetadataNode}
use Rattle.deny_krates_metadata.specs.declared.package.MetadataPackage.{MetadataPackage}

-- ---- a crate

abbrev pub declared : ℕ → Declaration
declared number = record {
  name = name_at number;
  req = version_at number;
  kind = Normal;
  rename = None;
  target = None;
  path = None;
  features = [];
  uses_default_features = true;
}

abbrev pub crate_package : ℕ → MetadataPackage
crate_package number = record {
  name = name_at number;
  version = version_at number;
  id = id_at number;
  manifest_path = path_text number;
  source = Some registry;
  license = None;
  rust_version = None;
  publish = None;
  features = [];
  targets = [];
  dependencies = [];
}

abbrev pub needed : ℕ → NodeDependency
needed number = record { pkg = id_at number; kinds = (record { kind = Normal; target = None }) ∷ [] }

abbrev pub crate_node : ℕ → MetadataNode
crate_node number = record { id = id_at number; features = []; deps = [] }

-- ---- the member `app`

abbrev pub app : List Declaration → MetadataPackage
app declarations = record {
  name = codes "app";
  version = codes "0.1.0";
  id = codes "app";
  manifest_path = codes "/w/Cargo.toml";
  source = None;
  license = None;
  rust_version = None;
  publish = None;
  features = [];
  targets = [];
  dependencies = declarations;
}

abbrev pub app_node : List NodeDependency → MetadataNode
app_node deps = record { id = codes "app"; features = []; deps = deps }

-- ---- the whole document

abbrev pub packages : List ℕ → List MetadataPackage
packages numbers = app (map declared numbers) ∷ map crate_package numbers

abbrev pub all_nodes : List ℕ → List MetadataNode
all_nodes numbers = app_node (map needed numbers) ∷ map crate_node numbers

abbrev pub document : List ℕ → Document
document numbers = record {
  packages = packages numbers;
  members = codes "app" ∷ [];
  workspace_root = codes "/w";
  nodes = all_nodes numbers;
}
