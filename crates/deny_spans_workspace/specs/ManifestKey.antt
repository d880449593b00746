-- The names of the keys that lead to entries, and of those that entries have.
use Rattle.std.specs.Prelude.{ℕ, List, codes}
use Rattle.deny_spans_workspace.specs.declared.manifest_key.ManifestKey.{ManifestKey}
use Rattle.deny_spans_workspace.specs.declared.manifest_key.ManifestKey.TheVariants as key

unfoldable pub name_of : ManifestKey → List ℕ
name_of key.Branch = codes "branch"
name_of key.CratesIo = codes "crates-io"
name_of key.Dependencies = codes "dependencies"
name_of key.Git = codes "git"
name_of key.Patch = codes "patch"
name_of key.Path = codes "path"
name_of key.Registry = codes "registry"
name_of key.Rev = codes "rev"
name_of key.Tag = codes "tag"
name_of key.Version = codes "version"
name_of key.Workspace = codes "workspace"
