-- The ignores that were hit, and those that were not hit.
use Rattle.std.specs.Prelude.{Bool, List, Option, filter, is_none, map, option_and_then, option_map}
use Rattle.deny_base.specs.declared.entry.EntryKind.TheVariants.{ReplacementIgnore}
use Rattle.deny_base.specs.declared.entry.Hit.{Hit}
use Rattle.deny_base.specs.declared.entry.Witness.TheVariants.{Krate}
use Rattle.deny_base.specs.declared.span.Span.{Span}
use Rattle.deny_cfg.specs.PackageSpecOrExtended.{PackageSpecOrExtended}
use Rattle.deny_cfg.specs.PolicyView.{entry_view}
use Rattle.deny_cfg.specs.Waiver.{Waiver}
use Rattle.deny_spec.specs.Graph.{Graph, kid_of}
use Rattle.deny_spec.specs.Hits.{hit_of}
use Rattle.deny_spec.specs.DiagParts.{crate_at}
use Rattle.deny_std.specs.declared.first_witnesses.FirstWitnesses.{FirstWitnesses}
use Rattle.deny_std.specs.declared.diags.Unmatched.{Unmatched}
use Rattle.deny_std.specs.private.FirstWitnesses.{place_in}
use Rattle.deny_std.specs.private.Diags.{unmatched_of}

-- the hit of an ignore by the first crate that hits it
abbrev pub hit_at : Graph → FirstWitnesses → PackageSpecOrExtended Waiver → Option Hit
hit_at g witnesses e = option_and_then
    (λ place. option_map (λ c. hit_of ReplacementIgnore e.spec.name.span (Krate (kid_of c))) (crate_at g place))
    (place_in witnesses e.spec.name.span)

abbrev pub is_unmatched : FirstWitnesses → PackageSpecOrExtended Waiver → Bool
is_unmatched witnesses e = is_none (place_in witnesses e.spec.name.span)

abbrev pub unmatched_span : Unmatched → Span
unmatched_span u = u.span

abbrev pub unmatched_in : FirstWitnesses → List (PackageSpecOrExtended Waiver) → List Unmatched
unmatched_in witnesses entries = map (λ e. unmatched_of (entry_view e)) (filter (is_unmatched witnesses) entries)
