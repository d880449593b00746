-- Which crates an entry matches.
use Rattle.std.specs.Prelude.{◌&&◌, ℕ, Bool, true, List, Option, Some, None}
use Rattle.semver.specs.EvalViews.{matches_views}
use Rattle.semver.specs.Parse.{Held, Parts}
use Rattle.deny_spec.specs.Graph.{Crate}
use Rattle.deny_spec.specs.Policy.{Spec}
use Rattle.deny_spec.specs.Text.{same_text}

-- whether a version meets a requirement; without one every version does
abbrev pub meets : Option (List Held) → Parts → Bool
meets None version = true
meets (Some requirement) version = matches_views requirement version

-- whether an entry matches crates of this name and version: the names are equal, and the version meets the
-- requirement
abbrev pub spec_matches : Spec → List ℕ → Parts → Bool
spec_matches spec name version = same_text spec.name name && meets spec.requirement version

unfoldable pub matches : Spec → Crate → Bool
matches spec c = spec_matches spec c.name c.version
