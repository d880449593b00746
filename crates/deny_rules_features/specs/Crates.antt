-- The features of a crate, by its place.
use Rattle.std.specs.Prelude.{◌==◌, ℕ, Bool, List, [], Option, if◌then◌else◌}
use Rattle.std.specs.List.{list_any}
use Rattle.std.specs.Option.{option_map_or}
use Rattle.deny_base.specs.declared.level.LintLevel.{LintLevel}
use Rattle.deny_base.specs.declared.span.Spanned.{Spanned}
use Rattle.deny_spec.specs.Graph.{Graph}
use Rattle.deny_spec.specs.Policy.{Policy}
use Rattle.deny_spec.specs.DiagParts.{crate_at}

-- the enabled features of the crate at a place
abbrev pub enabled_at : Graph → ℕ → List (List ℕ)
enabled_at g place = option_map_or (λ c. c.enabled) (crate_at g place) []

-- the crate at a place is a member of the workspace
abbrev pub is_member_at : Graph → ℕ → Bool
is_member_at g place = list_any (λ member. member == place) g.members

-- the level of the feature `default` of the crate at a place
abbrev pub default_level_at : Policy → Graph → ℕ → Option (Spanned LintLevel)
default_level_at p g place = if is_member_at g place then p.workspace_default else p.external_default
