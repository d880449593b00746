-- When the repository of an entry is that of a crate.
use Rattle.std.specs.Prelude.{ℕ, zero, suc, ◌-◌, ◌&&◌, ◌||◌, Bool, true, false, List, Option, Some, codes, drop, length}
use Rattle.std.specs.Prelude.{option_map, take, if◌then◌else◌}
use Rattle.std.specs.Option.{option_eq, option_map_or}
use Rattle.url.specs.Host.{host_text}
use Rattle.url.specs.Parts.{Parts, nonempty_host}
use Rattle.deny_krates.specs.Crates.{git_spec_view}
use Rattle.deny_spec.specs.Graph as model
use Rattle.deny_spec.specs.Text.{same_text}
use Rattle.deny_spans_workspace.specs.Origin.{address_of}
use Rattle.deny_spans_workspace.specs.declared.origin.DeclaredReference.{DeclaredReference}

-- the host of an address; none where it is empty or missing
abbrev pub host_of : Parts → Option (List ℕ)
host_of url = option_map host_text (nonempty_host url)

abbrev pub git_suffix : List ℕ
git_suffix = codes ".git"

-- the part of a path before a `.git` at its end
abbrev pub before_suffix : List ℕ → List ℕ
before_suffix path = take (length path - length git_suffix) path

abbrev pub ends_in_git : List ℕ → Bool
ends_in_git path = same_text (drop (length path - length git_suffix) path) git_suffix

-- a path without the `.git` suffixes at its end, up to a number of them
unfoldable pub without_suffixes : ℕ → List ℕ → List ℕ
without_suffixes zero path = path
without_suffixes (suc n) path = if ends_in_git path then without_suffixes n (before_suffix path) else path

-- a path without all `.git` suffixes at its end, of which there are fewer than bytes
abbrev pub without_git : List ℕ → List ℕ
without_git path = without_suffixes (length path) path

-- whether two addresses have equal hosts, and equal paths apart from `.git` suffixes
unfoldable pub is_same_address : Parts → Parts → Bool
is_same_address a b =
    option_eq same_text (host_of a) (host_of b) && same_text (without_git a.path) (without_git b.path)

abbrev pub is_any : model.GitSpec → Bool
is_any model.Any = true
is_any model.Branch = false
is_any model.Tag = false
is_any model.Rev = false

abbrev pub is_branch : model.GitSpec → Bool
is_branch model.Any = false
is_branch model.Branch = true
is_branch model.Tag = false
is_branch model.Rev = false

abbrev pub is_tag : model.GitSpec → Bool
is_tag model.Any = false
is_tag model.Branch = false
is_tag model.Tag = true
is_tag model.Rev = false

abbrev pub is_rev : model.GitSpec → Bool
is_rev model.Any = false
is_rev model.Branch = false
is_rev model.Tag = false
is_rev model.Rev = true

-- whether two references are of one kind
abbrev pub is_same_kind : model.GitSpec → model.GitSpec → Bool
is_same_kind model.Any = is_any
is_same_kind model.Branch = is_branch
is_same_kind model.Tag = is_tag
is_same_kind model.Rev = is_rev

-- whether a reference is the default branch `master`
abbrev pub is_master : model.GitSpec → Option (List ℕ) → Bool
is_master kind value = is_branch kind && option_eq same_text value (Some (codes "master"))

-- the reference of a crate is the entry's, or the entry has none and the crate is of branch `master`
unfoldable pub refers_alike : DeclaredReference → model.GitSpec → Option (List ℕ) → Bool
refers_alike r kind value =
    (is_same_kind (git_spec_view r.spec) kind && option_eq same_text r.value value)
    || (is_any (git_spec_view r.spec) && is_master kind value)

-- whether the text of a crate's address parses as the same address
abbrev pub is_at_address : Parts → List ℕ → Bool
is_at_address url address = option_map_or (is_same_address url) (address_of address) false

unfoldable pub is_repository : Parts → DeclaredReference → model.Source → Bool
is_repository url r (model.CratesIo sparse) = false
is_repository url r (model.Registry address) = false
is_repository url r (model.Sparse address) = false
is_repository url r (model.Git address kind value) = is_at_address url address && refers_alike r kind value
