-- The declarations of members and of a manifest, as they are counted.
use Rattle.std.proofs.Common.{◌≡◌, ℕ, ◌<◌, Bool, List, [], Option, Some, None, filter, length, map, not, refl, sym}
use Rattle.std.proofs.Common.{ap, ◌∙◌, subst}
use Rattle.std.specs.Prelude.{◌&&◌, All, option_and_then, slice_get, slice_index_or}
use Rattle.std.specs.Option.{option_flatten, option_map_or}
use Rattle.std.proofs.lemmas.List.Elements.{All-filter}
use Rattle.std.proofs.lemmas.Option.{slice_get_within}
use Rattle.std.proofs.lemmas.Simd.{map-map}
use Rattle.deny_base_lists.proofs.Filters.{filter-filter, filter-map}
use Rattle.deny_base.specs.declared.edge.DepKind.{DepKind}
use Rattle.deny_spec_report.specs.Sharing.{counts_here, is_left_out, use_in, uses_at, uses_in}
use Rattle.deny_rules_match.specs.Placed.{ArePlaced}
use Rattle.deny_krates.specs.Crates.{crate_view}
use Rattle.deny_spans_manifest.specs.Ignored.{is_among}
use Rattle.deny_spans_manifest.specs.Manifest.{IsOfGraph, dep_view, deps_in, ignored_by, without}
use Rattle.deny_spans_manifest.specs.declared.declarations.ManifestDep.{ManifestDep}
use Rattle.deny_spans_manifest.specs.declared.manifest.Manifest.{Manifest as Read}
use Rattle.deny_spec.specs.Graph.{Crate, Graph}
use Rattle.deny_spec.specs.Policy.{Sharing}
use Rattle.deny_spec.specs.DiagParts.{crate_at}
use Rattle.deny_spec.specs.View.{View, manifest_of}
use Rattle.deny_spans.specs.SpansView.{manifest_view}
use Rattle.deny_rules_manifests.specs.private.Rows.{counted_in, is_counted, use_of}

-- the declarations of a manifest that count
pub counted_are : (s : Sharing) (m : Read)
    → counted_in m.id s (without (ignored_by m) (deps_in m)) ≡ uses_in s (manifest_view m)
unfolding counted_in counts_here is_among is_left_out use_in uses_in without
counted_are s m =
    let keeps : ManifestDep → Bool = λ d. not (is_among (ignored_by m) d.dep.now.kind) in
    ap (map (use_of m.id)) (filter-filter keeps (is_counted s) (deps_in m))
    ∙ (sym (map-map (use_in (manifest_view m)) dep_view (filter (λ d. keeps d && is_counted s d) (deps_in m)))
    ∙ ap (map (use_in (manifest_view m))) (sym (filter-map (counts_here s (manifest_view m)) dep_view (deps_in m))))

-- the declarations of a manifest resolve to crates of the graph
pub of_graph : (g : Graph) (size : ℕ) (deps : List ManifestDep) → size ≡ length g.crates → All (IsOfGraph g) deps
    → All (λ d. d.place < size) deps
of_graph g size deps long are = λ k d inside.
    subst (λ (n : ℕ). (slice_index_or deps k d).place < n) (sym long)
    (slice_get_within g.crates (slice_index_or deps k d).place _ (are k d inside))

pub left_inside : (ignored : List DepKind) (size : ℕ) (deps : List ManifestDep) → All (λ d. d.place < size) deps
    → All (λ d. d.place < size) (without ignored deps)
unfolding without
left_inside ignored size deps are =
    All-filter (λ d. not (is_among ignored d.dep.now.kind)) (λ d. d.place < size) deps are

-- the declarations of the member at a place, by its manifest
pub member_uses : (s : Sharing) (g : Graph) (view : View) (place : ℕ) (m : Read)
    → crate_at g place ≡ Some (crate_view place m.krate.now)
    → Some (manifest_view m) ≡ option_flatten (slice_get view.manifests place)
    → uses_at s g view place ≡ uses_in s (manifest_view m)
unfolding uses_at
member_uses s g view place m at is =
    ap (λ o. option_map_or (uses_in s) (option_and_then (manifest_of view) o) []) at
    ∙ ap (λ o. option_map_or (uses_in s) o []) (sym is)

pub no_uses : (s : Sharing) (g : Graph) (view : View) (place : ℕ) → ArePlaced g.crates
    → None ≡ option_flatten (slice_get view.manifests place) → uses_at s g view place ≡ []
unfolding uses_at
no_uses s g view place placed none = by_crate (crate_at g place) refl
  where
    by_crate : (o : Option Crate) → crate_at g place ≡ o
        → option_map_or (uses_in s) (option_and_then (manifest_of view) (crate_at g place)) [] ≡ []
    by_crate None at = ap (λ o. option_map_or (uses_in s) (option_and_then (manifest_of view) o) []) at
    by_crate (Some c) at =
        ap (λ o. option_map_or (uses_in s) (option_and_then (manifest_of view) o) []) at
        ∙ (ap (λ (n : ℕ). option_map_or (uses_in s) (option_flatten (slice_get view.manifests n)) [])
        (placed.place place c at)
        ∙ ap (λ o. option_map_or (uses_in s) o []) (sym none))
