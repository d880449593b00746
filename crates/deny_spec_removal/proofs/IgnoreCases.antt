-- A replaced crate and two ignores that match it, for worked cases.
use Rattle.std.proofs.Common.{List, None, Some, [], ◌∷◌, codes, false}
use Rattle.std.specs.Prelude.{⊤, if◌then◌else◌}
use Rattle.std.specs.Option.{option_map_or}
use Rattle.deny_base.specs.declared.entry.EntryId.{EntryId}
use Rattle.deny_base.specs.declared.entry.EntryKind.TheVariants.{ReplacementIgnore}
use Rattle.deny_base.specs.declared.entry.Hit.{Hit}
use Rattle.deny_base.specs.declared.entry.Witness.TheVariants.{Krate}
use Rattle.deny_base.specs.declared.key.Key.{Key}
use Rattle.deny_base.specs.declared.level.LintLevel.TheVariants.{Deny}
use Rattle.deny_base.specs.declared.span.Span.{Span}
use Rattle.deny_spec.specs.Graph.{CratesIo, Graph, dependents, leads}
use Rattle.deny_spec.specs.Hits.{hit_of}
use Rattle.deny_spec.specs.Keys.{key_of}
use Rattle.deny_spec.specs.Match.{matches}
use Rattle.deny_spec.specs.Policy.{NoCrate, Policy, Workspace}
use Rattle.deny_spec.specs.Text.{same_text}
use Rattle.deny_spec_report.specs.Saying.{Saying}
use Rattle.deny_spec_report.specs.StdReplacements.{counting_version, has_stable, hits_ignore, ignore_hit, ignore_hits}
use Rattle.deny_spec_report.specs.Members.{is_member}
use Rattle.deny_spec_report.specs.StdReplacements.{ignore_of, is_hit_ignore, is_in_scope, is_replaced}
use Rattle.deny_spec_report.specs.StdReplacements.{is_reported_replaced, is_unmatched_ignore, may_replace}
use Rattle.deny_spec_report.specs.StdReplacements.{replaced_keys}
use Rattle.deny_spec_report.specs.StdReplacements.{satisfies, unmatched_ignore_keys}
use Rattle.deny_spec_report.proofs.Cases.{crate, edge, entry_at, graph, on_cases, plain, span}

-- the table has an entry for `x`, and `app`, which names no version of Rust, needs `x`
unfoldable pub of_x : Saying
of_x name = if same_text name (codes "x") then Some (record { stable = []; unstable = []; unavailable = [] }) else None

unfoldable pub replaced_x : Graph
replaced_x = graph (record (crate 1 (codes "x") 1) { source = Some (CratesIo false) } ∷ []) (edge 0 1 ∷ [])

-- two ignores match `x`
unfoldable pub two_ignores : Policy
two_ignores = record plain {
  replacing = Some (record {
    scope = Workspace;
    level = Deny;
    rust_version = None;
    ignore = entry_at (codes "x") 29 ∷ entry_at (codes "x") 39 ∷ [];
    ignore_rust_version = NoCrate;
  });
}

-- ---- the keys of a policy, and the hits of its ignores

abbrev pub replaced_by : Policy → List Key
replaced_by p = option_map_or (λ s. replaced_keys s replaced_x of_x) p.replacing []

abbrev pub unmatched_by : Policy → List Key
unmatched_by p = option_map_or (λ s. unmatched_ignore_keys s replaced_x of_x) p.replacing []

abbrev pub hits_by : Policy → List Hit
hits_by p = option_map_or (λ s. ignore_hits s replaced_x of_x) p.replacing []

abbrev pub hit_by_x : Span → Hit
hit_by_x span = hit_of ReplacementIgnore span (Krate (record { 0 = codes "x" }))

abbrev pub ignore : Span → EntryId
ignore span = record { kind = ReplacementIgnore; range = span }

-- ---- what a row unfolds to compute keys and hits

unfoldable pub ignores_on_cases : ⊤
unfolding on_cases of_x replaced_x two_ignores key_of matches dependents leads is_member is_in_scope counting_version
    has_stable satisfies may_replace is_replaced ignore_of hits_ignore is_hit_ignore is_reported_replaced replaced_keys
    is_unmatched_ignore unmatched_ignore_keys ignore_hit ignore_hits
ignores_on_cases = tt
