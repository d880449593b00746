-- The policy's ignores, by their indices.
use Rattle.std.specs.Prelude.{ℕ, Bool, false, List, Option, option_map, slice_get}
use Rattle.std.specs.Option.{option_map_or}
use Rattle.semver.specs.Identifiers.{parts_of}
use Rattle.deny_base.specs.declared.span.Span.{Span}
use Rattle.deny_cfg.specs.PackageSpecOrExtended.{PackageSpecOrExtended}
use Rattle.deny_cfg.specs.Waiver.{Waiver}
use Rattle.deny_cfg.specs.SpecView.{spec_view}
use Rattle.deny_krates.specs.krate.Krate.{Krate}
use Rattle.deny_spec.specs.Match.{spec_matches}

abbrev pub entry_name : PackageSpecOrExtended Waiver → List ℕ
entry_name e = e.spec.name.value

abbrev pub entry_span : List (PackageSpecOrExtended Waiver) → ℕ → Option Span
entry_span entries number = option_map (λ e. e.spec.name.span) (slice_get entries number)

abbrev pub matches_at : List (PackageSpecOrExtended Waiver) → Krate → ℕ → Bool
matches_at entries krate number = option_map_or
    (λ e. spec_matches (spec_view e.spec) krate.name (parts_of krate.version)) (slice_get entries number) false
