-- Worked cases of equal repositories.
use Rattle.std.proofs.Common.{◌≡◌, List, ℕ, [], Bool, true, false, Some, None, codes, refl}
use Rattle.std.specs.Option.{option_map_or}
use Rattle.url.proofs.OnLiterals.{url_on_literals}
use Rattle.deny_krates.specs.source.GitSpec.{GitSpec}
use Rattle.deny_krates.specs.source.GitSpec.TheVariants as spec
use Rattle.deny_spec.specs.Graph as model
use Rattle.deny_spans_workspace.specs.Origin.{address_of}
use Rattle.deny_spans_workspace.specs.Repositories.{is_at_address, is_same_address, refers_alike}
use Rattle.deny_spans_workspace.specs.Repositories.{without_git, without_suffixes}
use Rattle.deny_spans_workspace.specs.declared.origin.DeclaredReference.{DeclaredReference}

-- ---- paths

one_suffix : without_git (codes "/a/b.git") ≡ codes "/a/b"
unfolding without_suffixes
one_suffix = refl

each_suffix : without_git (codes "/a/b.git.git") ≡ codes "/a/b"
unfolding without_suffixes
each_suffix = refl

no_suffix : without_git (codes "/a.git/b") ≡ codes "/a.git/b"
unfolding without_suffixes
no_suffix = refl

suffix_alone : without_git (codes ".git") ≡ []
unfolding without_suffixes
suffix_alone = refl

-- ---- places

abbrev are_one : List ℕ → List ℕ → Bool
are_one a b = option_map_or (λ url. is_at_address url b) (address_of a) false

by_suffix : are_one (codes "https://h.org/x") (codes "https://h.org/x.git.git") ≡ true
unfolding url_on_literals without_suffixes is_same_address
by_suffix = refl

-- scheme, user, port and query do not count
by_scheme : are_one (codes "https://h.org/x") (codes "ssh://git@h.org:22/x?tag=1") ≡ true
unfolding url_on_literals without_suffixes is_same_address
by_scheme = refl

other_host : are_one (codes "https://h.org/x") (codes "https://g.org/x") ≡ false
unfolding url_on_literals without_suffixes is_same_address
other_host = refl

other_path : are_one (codes "https://h.org/x") (codes "https://h.org/X") ≡ false
unfolding url_on_literals without_suffixes is_same_address
other_path = refl

no_hosts : are_one (codes "file:///x") (codes "file:///x.git") ≡ true
unfolding url_on_literals without_suffixes is_same_address
no_hosts = refl

no_address : are_one (codes "https://h.org/x") (codes "h.org/x") ≡ false
unfolding url_on_literals without_suffixes is_same_address
no_address = refl

-- ---- references

abbrev to : GitSpec → List ℕ → DeclaredReference
to kind value = record { spec = kind; value = Some value }

abbrev none : DeclaredReference
none = record { spec = spec.Any; value = None }

same_branch : refers_alike (to spec.Branch (codes "b")) model.Branch (Some (codes "b")) ≡ true
unfolding refers_alike
same_branch = refl

other_branch : refers_alike (to spec.Branch (codes "b")) model.Branch (Some (codes "c")) ≡ false
unfolding refers_alike
other_branch = refl

other_kind : refers_alike (to spec.Branch (codes "b")) model.Tag (Some (codes "b")) ≡ false
unfolding refers_alike
other_kind = refl

no_reference : refers_alike none model.Any None ≡ true
unfolding refers_alike
no_reference = refl

branch_master : refers_alike none model.Branch (Some (codes "master")) ≡ true
unfolding refers_alike
branch_master = refl

branch_main : refers_alike none model.Branch (Some (codes "main")) ≡ false
unfolding refers_alike
branch_main = refl

tag_master : refers_alike none model.Tag (Some (codes "master")) ≡ false
unfolding refers_alike
tag_master = refl

-- an entry of branch `master` does not match a crate without a reference
asks_master : refers_alike (to spec.Branch (codes "master")) model.Any None ≡ false
unfolding refers_alike
asks_master = refl
