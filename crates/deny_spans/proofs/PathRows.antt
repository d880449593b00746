-- Paths of the workspace's files, worked out.
use Rattle.std.proofs.Common.{◌≡◌, [], refl}
use Rattle.std.specs.Prelude.{codes}
use Rattle.deny_spans.specs.Paths.{lock_path, workspace_path}

row-manifest : workspace_path (codes "/w") ≡ codes "/w/Cargo.toml"
unfolding workspace_path
row-manifest = refl

-- a slash is not written twice
row-root : workspace_path (codes "/") ≡ codes "/Cargo.toml"
unfolding workspace_path
row-root = refl

row-ended : workspace_path (codes "/w/") ≡ codes "/w/Cargo.toml"
unfolding workspace_path
row-ended = refl

row-nothing : workspace_path [] ≡ codes "/Cargo.toml"
unfolding workspace_path
row-nothing = refl

row-lock : lock_path (codes "/w") ≡ codes "/w/Cargo.lock"
unfolding lock_path
row-lock = refl
