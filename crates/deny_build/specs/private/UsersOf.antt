-- The crates that use a bypass, by its span.
use Rattle.std.specs.BTreeMap as tree
use Rattle.std.specs.BTreeMap.{BTreeMap}
use Rattle.std.specs.Borrow.{Bor}
use Rattle.std.specs.Prelude.{◌≡◌, Bool, false, List, [], Option, None, Vec, filter, map, option_map, if◌then◌else◌}
use Rattle.std.specs.Option.{option_map_or}
use Rattle.deny_base.specs.KeyOrder.{span_cmp}
use Rattle.deny_base.specs.declared.span.Span.{Span}
use Rattle.deny_spec.specs.Building.{Bypass}
use Rattle.deny_spec_report.specs.BuildScripts.{bypass_span}
use Rattle.deny_spec_report.specs.Packages.{Scanning}
use Rattle.deny_spec.specs.Wrappers.{same_span}
use Rattle.deny_build.specs.declared.scanned_krate.ScannedKrate.{ScannedKrate}
use Rattle.deny_build.specs.declared.users.Users.{Users}
use Rattle.deny_build.specs.private.ScannedKrates.{scanned_view}
use Rattle.deny_build.specs.private.Users.{is_user}

-- the span of the bypass of a checked crate
abbrev pub span_used : ScannedKrate → Option Span
span_used at = if at.checked then option_map (λ y. y.now.spec.name.span) at.bypass else None

abbrev pub uses_span : Span → ScannedKrate → Bool
uses_span span at = option_map_or (λ own. same_span own span) (span_used at) false

-- the crates that the map has for a span
abbrev pub users_at : {A : Type 0} → BTreeMap Span (Vec (Bor ScannedKrate) A) → Span → List ScannedKrate
users_at groups span = option_map_or (λ group. map (λ at. at.now) group.items) (tree.get span_cmp groups span) []

-- the crates at the span of each bypass are those of the graph that use it
abbrev pub AreUsers : Scanning → Users → Type 0
AreUsers l users = (y : Bypass) → map scanned_view (users_at users.groups (bypass_span y))
    ≡ map (λ c. (l, c)) (filter (λ c. is_user y (l, c)) l.graph.crates)
