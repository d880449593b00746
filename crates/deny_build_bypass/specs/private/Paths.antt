-- The files that a bypass allows, by the spelling of their components.
use Rattle.std.specs.Prelude.{ℕ, ◌++◌, List, [], Option, None, Some, codes}
use Rattle.std.specs.List.{flat_map}
use Rattle.deny_cfg_build.specs.declared.valid.ValidBypass.{ValidBypass}
use Rattle.deny_spec.specs.Paths.{components}
use Rattle.deny_cfg_tables.specs.declared.bans.cfg.bypass.BypassPath.{BypassPath}

-- the components, each followed by a slash
abbrev pub spelled : List (List ℕ) → List ℕ
spelled names = flat_map (λ name. name ++ codes "/") names

-- the spelling of a path: equal for paths with equal components
unfoldable pub spelling : List ℕ → List ℕ
spelling path = spelled (components path)

abbrev pub spelling_of : BypassPath → List ℕ
spelling_of file = spelling file.path.value

abbrev pub files_of : Option ValidBypass → List BypassPath
files_of None = []
files_of (Some bypass) = bypass.allow
