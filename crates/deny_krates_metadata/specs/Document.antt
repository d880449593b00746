-- How metadata is read from its text: the members that are read, in the order in which they are read.
-- Other members are ignored.
use Rattle.std.specs.Prelude.{ℕ, List, [], ◌∷◌, true, Option, Some, None, Result, Ok, Err, codes, if◌then◌else◌}
use Rattle.std.specs.Prelude.{is_none, option_and_then}
use Rattle.std.specs.Str.{is_utf8}
use Rattle.serde_json.specs.Data.{Data, Members, no_members, member}
use Rattle.serde_json.specs.Find.{get, as_str, as_object}
use Rattle.serde_json.specs.Read.{read}
use Rattle.serde_json.specs.Written.{has_float}
use Rattle.deny_base.specs.declared.edge.DepKind.{DepKind}
use Rattle.deny_base.specs.declared.edge.DepKind.TheVariants.{Normal, Dev, Build}
use Rattle.deny_spec.specs.Text.{same_text}
use Rattle.deny_krates_metadata.specs.Elements.{part_of, path_to, required, given, object_at, text_at, texts_at}
use Rattle.deny_krates_metadata.specs.Elements.{text_member}
use Rattle.deny_krates_metadata.specs.Elements.{optional_text, optional_texts, flag_member, array_member, object_member}
use Rattle.deny_krates_metadata.specs.Elements.{elements_from, each_member, each_optional}
use Rattle.deny_krates_metadata.specs.Member.{name_of}
use Rattle.deny_base_lists.specs.Reader.{◌>>=◌}
use Rattle.deny_krates_metadata.specs.declared.declaration.Declaration.{Declaration}
use Rattle.deny_krates_metadata.specs.declared.document.Document.{Document}
use Rattle.deny_krates_metadata.specs.declared.feature.Feature.{Feature}
use Rattle.deny_krates_metadata.specs.declared.node.NeededAs.{NeededAs}
use Rattle.deny_krates_metadata.specs.declared.node.NodeDependency.{NodeDependency}
use Rattle.deny_krates_metadata.specs.declared.node.MetadataNode.{MetadataNode}
use Rattle.deny_krates_metadata.specs.declared.package.MetadataPackage.{MetadataPackage}
use Rattle.deny_krates_metadata.specs.declared.package.Target.{Target}
use Rattle.deny_krates_metadata.specs.declared.fault.MetadataFault.{MetadataFault}
use Rattle.deny_krates_metadata.specs.declared.fault.MetadataFault.TheVariants.{Json, Float, NoResolve}
use Rattle.deny_krates_metadata.specs.declared.member.MetadataMember.TheVariants.{Packages, WorkspaceMembers}
use Rattle.deny_krates_metadata.specs.declared.member.MetadataMember.TheVariants.{WorkspaceRoot, Resolve}
use Rattle.deny_krates_metadata.specs.declared.member.MetadataMember.TheVariants.{Nodes, Name, Version, Id}
use Rattle.deny_krates_metadata.specs.declared.member.MetadataMember.TheVariants.{ManifestPath, Source}
use Rattle.deny_krates_metadata.specs.declared.member.MetadataMember.TheVariants.{License, RustVersion, Publish}
use Rattle.deny_krates_metadata.specs.declared.member.MetadataMember.TheVariants.{Features, Targets}
use Rattle.deny_krates_metadata.specs.declared.member.MetadataMember.TheVariants.{Dependencies, Req, Kind, Rename}
use Rattle.deny_krates_metadata.specs.declared.member.MetadataMember.TheVariants.{Target as ForTarget}
use Rattle.deny_krates_metadata.specs.declared.member.MetadataMember.TheVariants.{Path, UsesDefaultFeatures, SrcPath}
use Rattle.deny_krates_metadata.specs.declared.member.MetadataMember.TheVariants.{Deps, Pkg}
use Rattle.deny_krates_metadata.specs.declared.member.MetadataMember.TheVariants.{DepKinds}

-- the value of a text in UTF-8
unfoldable pub json_of : Option Data → Result Data MetadataFault
json_of None = Err Json
json_of (Some d) = Ok d

unfoldable pub json_at : List ℕ → Result Data MetadataFault
json_at bytes = if is_utf8 bytes then json_of (read bytes) else Err Json

-- a value whose numbers are whole and within 64 bits
unfoldable pub whole : Data → Result Data MetadataFault
whole d = if has_float d then Err Float else Ok d

unfoldable pub value_at : List ℕ → Result Data MetadataFault
value_at bytes = do
  d ← json_at bytes
  whole d

unfoldable pub feature_at : List ℕ → List ℕ → Data → Result Feature MetadataFault
feature_at path name d = do
  enables ← texts_at (part_of path name) d
  Ok (record { name = name; enables = enables })

unfoldable pub features_from : List ℕ → Members → Result (List Feature) MetadataFault
features_from path no_members = Ok []
features_from path (member name d ms) = do
  feature ← feature_at path name d
  features ← features_from path ms
  Ok (feature ∷ features)

-- the features that the members of an object are, in byte order of their names
unfoldable pub features_at : List ℕ → Data → Result (List Feature) MetadataFault
features_at path d = do
  ms ← required path (as_object d)
  features_from path ms

unfoldable pub features_given : List ℕ → Option Data → Result (List Feature) MetadataFault
features_given path None = Ok []
features_given path (Some d) = features_at path d

unfoldable pub features_member : List ℕ → Data → Result (List Feature) MetadataFault
features_member path d = features_given (path_to path Features) (given (get (name_of Features) d))

unfoldable pub target_at : List ℕ → Data → Result Target MetadataFault
target_at path d = do
  _ ← object_at path d
  kind ← each_member text_at path Kind d
  src_path ← text_member path SrcPath d
  Ok (record { kind = kind; src_path = src_path })

unfoldable pub kind_named : List ℕ → Option DepKind
kind_named name =
    if same_text name (codes "normal") then Some Normal
    else (if same_text name (codes "dev") then Some Dev
    else (if same_text name (codes "build") then Some Build else None))

-- a kind that is not written, or null, is normal
unfoldable pub kind_given : List ℕ → Option Data → Result DepKind MetadataFault
kind_given path None = Ok Normal
kind_given path (Some d) = required path (option_and_then kind_named (as_str d))

unfoldable pub kind_member : List ℕ → Data → Result DepKind MetadataFault
kind_member path d = kind_given (path_to path Kind) (given (get (name_of Kind) d))

unfoldable pub declaration_at : List ℕ → Data → Result Declaration MetadataFault
declaration_at path d = do
  _ ← object_at path d
  name ← text_member path Name d
  req ← text_member path Req d
  kind ← kind_member path d
  rename ← optional_text path Rename d
  target ← optional_text path ForTarget d
  folder ← optional_text path Path d
  features ← each_optional text_at path Features d
  uses_default_features ← flag_member path UsesDefaultFeatures true d
  Ok (record {
    name = name;
    req = req;
    kind = kind;
    rename = rename;
    target = target;
    path = folder;
    features = features;
    uses_default_features = uses_default_features;
  })

unfoldable pub package_at : List ℕ → Data → Result MetadataPackage MetadataFault
package_at path d = do
  _ ← object_at path d
  name ← text_member path Name d
  version ← text_member path Version d
  id ← text_member path Id d
  manifest_path ← text_member path ManifestPath d
  source ← optional_text path Source d
  license ← optional_text path License d
  rust_version ← optional_text path RustVersion d
  publish ← optional_texts path Publish d
  features ← features_member path d
  targets ← each_optional target_at path Targets d
  dependencies ← each_optional declaration_at path Dependencies d
  Ok (record {
    name = name;
    version = version;
    id = id;
    manifest_path = manifest_path;
    source = source;
    license = license;
    rust_version = rust_version;
    publish = publish;
    features = features;
    targets = targets;
    dependencies = dependencies;
  })

unfoldable pub needed_as_at : List ℕ → Data → Result NeededAs MetadataFault
needed_as_at path d = do
  _ ← object_at path d
  kind ← kind_member path d
  target ← optional_text path ForTarget d
  Ok (record { kind = kind; target = target })

-- a dependency that writes no kinds is normal, for all targets
unfoldable pub kinds_of : List NeededAs → List NeededAs
kinds_of [] = (record { kind = Normal; target = None }) ∷ []
kinds_of (kind ∷ kinds) = kind ∷ kinds

unfoldable pub node_dependency_at : List ℕ → Data → Result NodeDependency MetadataFault
node_dependency_at path d = do
  _ ← object_at path d
  pkg ← text_member path Pkg d
  kinds ← each_optional needed_as_at path DepKinds d
  Ok (record { pkg = pkg; kinds = kinds_of kinds })

unfoldable pub node_at : List ℕ → Data → Result MetadataNode MetadataFault
node_at path d = do
  _ ← object_at path d
  id ← text_member path Id d
  features ← each_optional text_at path Features d
  deps ← each_optional node_dependency_at path Deps d
  Ok (record { id = id; features = features; deps = deps })

unfoldable pub resolve_given : Data → Result (Unit {0}) MetadataFault
resolve_given d = if is_none (given (get (name_of Resolve) d)) then Err NoResolve else Ok tt

unfoldable pub document_of : Data → Result Document MetadataFault
document_of d = do
  _ ← object_at [] d
  _ ← resolve_given d
  packages ← array_member [] Packages d
  members ← each_member text_at [] WorkspaceMembers d
  workspace_root ← text_member [] WorkspaceRoot d
  resolve ← object_member [] Resolve d
  read_packages ← elements_from package_at (path_to [] Packages) 0 packages
  nodes ← each_member node_at (path_to [] Resolve) Nodes resolve
  Ok (record { packages = read_packages; members = members; workspace_root = workspace_root; nodes = nodes })

-- the metadata that a text in UTF-8 is, or its first fault
unfoldable pub document_at : List ℕ → Result Document MetadataFault
document_at bytes = do
  d ← value_at bytes
  document_of d
