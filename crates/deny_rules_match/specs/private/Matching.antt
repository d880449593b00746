-- The versions that meet an entry's requirement.
use Rattle.std.specs.Prelude.{Bool}
use Rattle.deny_spec.specs.Graph.{Crate}
use Rattle.deny_spec.specs.Match.{meets}
use Rattle.deny_spec.specs.Policy.{Spec}

-- the crate has a version that the entry asks for
unfoldable pub is_met_by : Spec → Crate → Bool
is_met_by spec c = meets spec.requirement c.version
