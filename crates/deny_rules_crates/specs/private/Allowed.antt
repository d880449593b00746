-- Which crates the allow list matches, and which are left.
use Rattle.std.specs.Prelude.{◌&&◌, Bool, not, List}
use Rattle.std.specs.List.{list_any}
use Rattle.deny_spec.specs.Graph.{Crate}
use Rattle.deny_spec.specs.Match.{matches}
use Rattle.deny_spec.specs.Policy.{AllowEntry}
use Rattle.deny_rules_match.specs.Marks.{marked}

-- an entry matches the crate
unfoldable pub allows : List AllowEntry → Crate → Bool
allows entries c = list_any (λ e. matches e.spec c) entries

-- the crate has neither mark
unfoldable pub is_unmarked : List Bool → List Bool → Crate → Bool
is_unmarked allowed exempt c = not (marked allowed c) && not (marked exempt c)
