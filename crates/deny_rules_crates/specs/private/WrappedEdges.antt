-- Wrapped edges: those that lead to a crate that a ban concerns from one that has a wrapper's name. A wrapper's hit
-- is made of the first of its edges.
use Rattle.std.specs.Prelude.{◌≡◌, ℕ, List, Option, filter_map, find, map, option_and_then, option_map}
use Rattle.std.specs.BTreeMap.{BTreeMap}
use Rattle.std.specs.BTreeMap as tree
use Rattle.deny_base_lists.specs.TextMap.{TextFinMap}
use Rattle.deny_base.specs.declared.entry.EntryKind.TheVariants.{Wrapper}
use Rattle.deny_base.specs.declared.entry.Hit.{Hit}
use Rattle.deny_base.specs.declared.entry.Witness.TheVariants.{Parent}
use Rattle.deny_base.specs.KeyOrder.{span_cmp}
use Rattle.deny_base.specs.declared.span.Span.{Span}
use Rattle.deny_spec.specs.Graph.{Graph, dependents, kid_of}
use Rattle.deny_spec.specs.Hits.{hit_of, wrapper_hit}
use Rattle.deny_spec.specs.Policy.{Ban, Policy, SpannedText}
use Rattle.deny_spec.specs.DiagParts.{crate_at}
use Rattle.deny_spec.specs.Wrappers.{same_span}
use Rattle.deny_rules_match.specs.Wrappers.{span_at}
use Rattle.deny_rules_crates.specs.declared.hits.WrappedEdge.{WrappedEdge}

-- the edge from the dependent at a place, where its name has a span
unfoldable pub wrapped_edge_at : Graph → TextFinMap Span → ℕ → ℕ → Option WrappedEdge
wrapped_edge_at g spans place parent = option_map (λ r. record {
  span = r;
  place = place;
  parent = parent;
}) (span_at g spans parent)

-- the wrapped edges of all dependents of the crate at a place
unfoldable pub wrapped_edges_at : Graph → TextFinMap Span → ℕ → List WrappedEdge
wrapped_edges_at g spans place = filter_map (wrapped_edge_at g spans place) (map (λ c. c.place) (dependents g place))

-- the first wrapped edge of a span
abbrev pub first_wrapped_edge : List WrappedEdge → Span → Option WrappedEdge
first_wrapped_edge edges span = find (λ e. same_span e.span span) edges

-- each span leads to its first wrapped edge
pub record LeadToFirsts (edges : List WrappedEdge) (firsts : BTreeMap Span WrappedEdge) : Type 0 where
  pub at : (span : Span) → tree.get span_cmp firsts span ≡ first_wrapped_edge edges span

-- the hit by a wrapped edge
unfoldable pub hit_by_edge : Graph → WrappedEdge → Option Hit
hit_by_edge g m = option_and_then (λ c. option_map (λ d. hit_of Wrapper m.span (Parent (kid_of c) (kid_of d)))
    (crate_at g m.parent)) (crate_at g m.place)

-- the hit of a wrapper by the wrapped edge that its span leads to
unfoldable pub hit_at : Graph → BTreeMap Span WrappedEdge → SpannedText → Option Hit
hit_at g firsts w = option_and_then (hit_by_edge g) (tree.get span_cmp firsts w.span)

-- the hits of a ban's wrappers, in their order
abbrev pub wrapper_hits : Policy → Graph → Ban → List Hit
wrapper_hits p g ban = filter_map (wrapper_hit p g ban) ban.wrappers
