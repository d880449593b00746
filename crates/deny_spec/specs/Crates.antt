-- What a crate is by its source, by the registries that it may be published to, and where it lies.
use Rattle.std.specs.Prelude.{ℕ, ◌==◌, Bool, true, false, List, [], ◌∷◌}
use Rattle.std.specs.List.{before_last, list_all, list_any}
use Rattle.std.specs.Option.{option_map_or}
use Rattle.deny_spec.specs.Graph.{Crate, Source, CratesIo, Registry, Sparse, Git}
use Rattle.deny_spec.specs.Text.{same_text}

abbrev pub is_git : Source → Bool
is_git (CratesIo sparse) = false
is_git (Registry url) = false
is_git (Sparse url) = false
is_git (Git url spec value) = true

abbrev pub is_of_registry : Source → Bool
is_of_registry (CratesIo sparse) = true
is_of_registry (Registry url) = true
is_of_registry (Sparse url) = true
is_of_registry (Git url spec value) = false

abbrev pub is_of_crates_io : Source → Bool
is_of_crates_io (CratesIo sparse) = true
is_of_crates_io (Registry url) = false
is_of_crates_io (Sparse url) = false
is_of_crates_io (Git url spec value) = false

abbrev pub is_git_source : Crate → Bool
is_git_source c = option_map_or is_git c.source false

abbrev pub is_registry : Crate → Bool
is_registry c = option_map_or is_of_registry c.source false

abbrev pub is_crates_io : Crate → Bool
is_crates_io c = option_map_or is_of_crates_io c.source false

-- the crate's manifest says where it may be published, and names only these registries
abbrev pub is_private : List (List ℕ) → Crate → Bool
is_private registries c = option_map_or (list_all (λ name. list_any (same_text name) registries)) c.publish false

abbrev pub or_root : List ℕ → List ℕ
or_root [] = 47 ∷ []
or_root (byte ∷ bytes) = byte ∷ bytes

-- the part of a path before its last `/`, or `/` where that part is empty
unfoldable pub folder_of : List ℕ → List ℕ
folder_of path = or_root (before_last (λ byte. byte == 47) path)

-- the folder of a crate's manifest
abbrev pub folder : Crate → List ℕ
folder c = folder_of c.manifest_path
