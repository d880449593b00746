-- The parts in which a package, a declaration and a document are read.
use Rattle.std.specs.Prelude.{ℕ, List, [], Result, Ok, true}
use Rattle.serde_json.specs.Data.{Data, Items}
use Rattle.deny_krates_metadata.specs.Document.{declaration_at, features_member, kind_member, node_at, package_at}
use Rattle.deny_krates_metadata.specs.Document.{target_at}
use Rattle.deny_krates_metadata.specs.Elements.{path_to, object_at, text_at, text_member, optional_text, optional_texts}
use Rattle.deny_krates_metadata.specs.Elements.{flag_member, object_member, elements_from, each_member, each_optional}
use Rattle.deny_base_lists.specs.Reader.{◌>>=◌}
use Rattle.deny_krates_metadata.specs.declared.package.Contents.{Contents}
use Rattle.deny_krates_metadata.specs.declared.document.Document.{Document}
use Rattle.deny_krates_metadata.specs.declared.package.Identity.{Identity}
use Rattle.deny_krates_metadata.specs.declared.declaration.Requested.{Requested}
use Rattle.deny_krates_metadata.specs.declared.package.Terms.{Terms}
use Rattle.deny_krates_metadata.specs.declared.declaration.Usage.{Usage}
use Rattle.deny_krates_metadata.specs.declared.fault.MetadataFault.{MetadataFault}
use Rattle.deny_krates_metadata.specs.declared.member.MetadataMember.TheVariants.{Packages, WorkspaceMembers}
use Rattle.deny_krates_metadata.specs.declared.member.MetadataMember.TheVariants.{WorkspaceRoot, Resolve}
use Rattle.deny_krates_metadata.specs.declared.member.MetadataMember.TheVariants.{Nodes, Name, Version, Id}
use Rattle.deny_krates_metadata.specs.declared.member.MetadataMember.TheVariants.{ManifestPath, Source, License}
use Rattle.deny_krates_metadata.specs.declared.member.MetadataMember.TheVariants.{RustVersion, Publish, Targets}
use Rattle.deny_krates_metadata.specs.declared.member.MetadataMember.TheVariants.{Dependencies, Req, Rename}
use Rattle.deny_krates_metadata.specs.declared.member.MetadataMember.TheVariants.{Target as ForTarget}
use Rattle.deny_krates_metadata.specs.declared.member.MetadataMember.TheVariants.{Path, Features, UsesDefaultFeatures}

unfoldable pub requested_at : List ℕ → Data → Result Requested MetadataFault
requested_at path d = do
  _ ← object_at path d
  name ← text_member path Name d
  req ← text_member path Req d
  kind ← kind_member path d
  rename ← optional_text path Rename d
  Ok (record { name = name; req = req; kind = kind; rename = rename })

unfoldable pub usage_at : List ℕ → Data → Result Usage MetadataFault
usage_at path d = do
  target ← optional_text path ForTarget d
  folder ← optional_text path Path d
  features ← each_optional text_at path Features d
  uses_default_features ← flag_member path UsesDefaultFeatures true d
  Ok (record {
    target = target;
    path = folder;
    features = features;
    uses_default_features = uses_default_features;
  })

unfoldable pub identity_at : List ℕ → Data → Result Identity MetadataFault
identity_at path d = do
  _ ← object_at path d
  name ← text_member path Name d
  version ← text_member path Version d
  id ← text_member path Id d
  manifest_path ← text_member path ManifestPath d
  Ok (record { name = name; version = version; id = id; manifest_path = manifest_path })

unfoldable pub terms_at : List ℕ → Data → Result Terms MetadataFault
terms_at path d = do
  source ← optional_text path Source d
  license ← optional_text path License d
  rust_version ← optional_text path RustVersion d
  publish ← optional_texts path Publish d
  Ok (record { source = source; license = license; rust_version = rust_version; publish = publish })

unfoldable pub contents_at : List ℕ → Data → Result Contents MetadataFault
contents_at path d = do
  features ← features_member path d
  targets ← each_optional target_at path Targets d
  dependencies ← each_optional declaration_at path Dependencies d
  Ok (record { features = features; targets = targets; dependencies = dependencies })

-- the document of a workspace, given its members, its folder, the elements of its array of packages and its
-- `resolve`
unfoldable pub document_of_workspace : List (List ℕ) → List ℕ → Items → Data → Result Document MetadataFault
document_of_workspace members workspace_root packages resolve = do
  read_packages ← elements_from package_at (path_to [] Packages) 0 packages
  nodes ← each_member node_at (path_to [] Resolve) Nodes resolve
  Ok (record { packages = read_packages; members = members; workspace_root = workspace_root; nodes = nodes })

-- the document of a root, given the elements of its array of packages
unfoldable pub document_of_packages : Data → Items → Result Document MetadataFault
document_of_packages d packages = do
  members ← each_member text_at [] WorkspaceMembers d
  workspace_root ← text_member [] WorkspaceRoot d
  resolve ← object_member [] Resolve d
  document_of_workspace members workspace_root packages resolve
