-- The names of the members that are read.
use Rattle.std.specs.Prelude.{ℕ, List, codes}
use Rattle.deny_krates_metadata.specs.declared.member.MetadataMember.{MetadataMember}
use Rattle.deny_krates_metadata.specs.declared.member.MetadataMember.TheVariants.{Packages, WorkspaceMembers}
use Rattle.deny_krates_metadata.specs.declared.member.MetadataMember.TheVariants.{WorkspaceRoot, Resolve}
use Rattle.deny_krates_metadata.specs.declared.member.MetadataMember.TheVariants.{Nodes, Name, Version, Id}
use Rattle.deny_krates_metadata.specs.declared.member.MetadataMember.TheVariants.{ManifestPath, Source}
use Rattle.deny_krates_metadata.specs.declared.member.MetadataMember.TheVariants.{License, RustVersion, Publish}
use Rattle.deny_krates_metadata.specs.declared.member.MetadataMember.TheVariants.{Features, Targets}
use Rattle.deny_krates_metadata.specs.declared.member.MetadataMember.TheVariants.{Dependencies, Req, Kind, Rename}
use Rattle.deny_krates_metadata.specs.declared.member.MetadataMember.TheVariants.{Target, Path}
use Rattle.deny_krates_metadata.specs.declared.member.MetadataMember.TheVariants.{UsesDefaultFeatures, SrcPath, Deps}
use Rattle.deny_krates_metadata.specs.declared.member.MetadataMember.TheVariants.{Pkg, DepKinds}

unfoldable pub name_of : MetadataMember → List ℕ
name_of Packages = codes "packages"
name_of WorkspaceMembers = codes "workspace_members"
name_of WorkspaceRoot = codes "workspace_root"
name_of Resolve = codes "resolve"
name_of Nodes = codes "nodes"
name_of Name = codes "name"
name_of Version = codes "version"
name_of Id = codes "id"
name_of ManifestPath = codes "manifest_path"
name_of Source = codes "source"
name_of License = codes "license"
name_of RustVersion = codes "rust_version"
name_of Publish = codes "publish"
name_of Features = codes "features"
name_of Targets = codes "targets"
name_of Dependencies = codes "dependencies"
name_of Req = codes "req"
name_of Kind = codes "kind"
name_of Rename = codes "rename"
name_of Target = codes "target"
name_of Path = codes "path"
name_of UsesDefaultFeatures = codes "uses_default_features"
name_of SrcPath = codes "src_path"
name_of Deps = codes "deps"
name_of Pkg = codes "pkg"
name_of DepKinds = codes "dep_kinds"
