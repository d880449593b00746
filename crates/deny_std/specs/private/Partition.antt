-- Replaced crates by their places: those that are reported, and those that hit ignores.
use Rattle.std.specs.Prelude.{◌∷◌, ℕ, List, [], Option, None, Some, filter, map, option_and_then, option_map}
use Rattle.deny_base.specs.declared.span.Span.{Span}
use Rattle.deny_cfg.specs.PackageSpecOrExtended.{PackageSpecOrExtended}
use Rattle.deny_cfg.specs.PolicyView.{entry_view}
use Rattle.deny_cfg.specs.Waiver.{Waiver}
use Rattle.deny_spec_report.specs.FirstMatch.{first_of}
use Rattle.deny_spec_report.specs.Saying.{Saying}
use Rattle.deny_spec_report.specs.StdReplacements.{ignore_span, ignores, is_replaced}
use Rattle.deny_spec.specs.Graph.{Graph}
use Rattle.deny_spec.specs.Policy.{Replacing}
use Rattle.deny_spec.specs.DiagParts.{crate_at}

-- the places of the crates that are replaced
abbrev pub replaced_in : Replacing → Graph → Saying → List ℕ
replaced_in r g said = map (λ c. c.place) (filter (is_replaced r g said) g.crates)

-- the span of the first ignore that matches the crate at a place
abbrev pub span_at : List (PackageSpecOrExtended Waiver) → Graph → ℕ → Option Span
span_at entries g place = option_and_then
    (λ c. option_map ignore_span (first_of ignores (map entry_view entries) c)) (crate_at g place)

abbrev pub reported_of : Option Span → ℕ → List ℕ
reported_of None place = place ∷ []
reported_of (Some span) place = []

abbrev pub ignored_of : Option Span → ℕ → List (Span × ℕ)
ignored_of None place = []
ignored_of (Some span) place = (span, place) ∷ []

abbrev pub reported_at : List (PackageSpecOrExtended Waiver) → Graph → ℕ → List ℕ
reported_at entries g place = reported_of (span_at entries g place) place

abbrev pub ignored_at : List (PackageSpecOrExtended Waiver) → Graph → ℕ → List (Span × ℕ)
ignored_at entries g place = ignored_of (span_at entries g place) place
