-- Paths compared by their components.
use Rattle.std.specs.Prelude.{ℕ, Bool, false, List, slice_get}
use Rattle.std.specs.Cmp.Lexicographic.{pointwise}
use Rattle.std.specs.Option.{option_map_or}
use Rattle.deny_spec.specs.Paths.{components}
use Rattle.deny_spec.specs.Text.{same_text}
use Rattle.deny_cfg_tables.specs.declared.bans.cfg.bypass.BypassPath.{BypassPath}

abbrev pub has_components : List (List ℕ) → List ℕ → Bool
has_components names path = pointwise same_text (components path) names

-- the file at an index has these components
abbrev pub has_components_at : List BypassPath → List (List ℕ) → ℕ → Bool
has_components_at files names number =
    option_map_or (λ file. has_components names file.path.value) (slice_get files number) false
