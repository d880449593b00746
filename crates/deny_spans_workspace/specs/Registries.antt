-- The known registries, and the sources of crates that they stand for.
use Rattle.std.specs.Prelude.{ℕ, ◌++◌, ◌||◌, Bool, true, false, List, Option, codes, find, nat_eq, option_and_then}
use Rattle.std.specs.Prelude.{if◌then◌else◌}
use Rattle.std.specs.List.{starts_with}
use Rattle.deny_krates.specs.Source.{source_of}
use Rattle.deny_krates.specs.source.Source.{Source}
use Rattle.deny_spec.specs.Graph as model
use Rattle.deny_spec.specs.Text.{same_text}
use Rattle.deny_spans_workspace.specs.declared.registries.Registry.{Registry}

abbrev pub begins_with : List ℕ → List ℕ → Bool
begins_with prefix text = starts_with nat_eq text prefix

-- whether an address begins with the kind of its source
unfoldable pub has_prefix : List ℕ → Bool
has_prefix address = begins_with (codes "registry+") address
    || (begins_with (codes "sparse+") address || begins_with (codes "git+") address)

-- the source text of an address; one without a prefix is that of a registry
unfoldable pub source_text_of : List ℕ → List ℕ
source_text_of address = if has_prefix address then address else codes "registry+" ++ address

abbrev pub has_registry_name : List ℕ → Registry → Bool
has_registry_name name r = same_text r.name name

abbrev pub source_at : Registry → Option Source
source_at r = source_of (source_text_of r.address)

-- the source that the address of the first registry with a name parses as
unfoldable pub source_of_registry : List Registry → List ℕ → Option Source
source_of_registry registries name = option_and_then source_at (find (has_registry_name name) registries)

abbrev pub is_sparse_or_not : Bool → Bool → Bool
is_sparse_or_not true sparse = sparse
is_sparse_or_not false sparse = if sparse then false else true

abbrev pub is_crates_io_by : Bool → model.Source → Bool
is_crates_io_by sparse (model.CratesIo other) = is_sparse_or_not sparse other
is_crates_io_by sparse (model.Registry address) = false
is_crates_io_by sparse (model.Sparse address) = false
is_crates_io_by sparse (model.Git address kind value) = false

abbrev pub is_registry_at : List ℕ → model.Source → Bool
is_registry_at address (model.CratesIo sparse) = false
is_registry_at address (model.Registry other) = same_text address other
is_registry_at address (model.Sparse other) = false
is_registry_at address (model.Git other kind value) = false

abbrev pub is_sparse_at : List ℕ → model.Source → Bool
is_sparse_at address (model.CratesIo sparse) = false
is_sparse_at address (model.Registry other) = false
is_sparse_at address (model.Sparse other) = same_text address other
is_sparse_at address (model.Git other kind value) = false

abbrev pub is_git_at : List ℕ → model.Source → Bool
is_git_at address (model.CratesIo sparse) = false
is_git_at address (model.Registry other) = false
is_git_at address (model.Sparse other) = false
is_git_at address (model.Git other kind value) = same_text address other

-- sources are equal by their kind and the text of their address, which for git has its query
unfoldable pub is_same_source : model.Source → model.Source → Bool
is_same_source (model.CratesIo sparse) = is_crates_io_by sparse
is_same_source (model.Registry address) = is_registry_at address
is_same_source (model.Sparse address) = is_sparse_at address
is_same_source (model.Git address kind value) = is_git_at address
