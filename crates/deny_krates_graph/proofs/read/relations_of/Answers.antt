use Rattle.std.proofs.Common.{◌<◌, ◌∙◌, sym, ap, ℕ, List, length, map, subst}
use Rattle.std.specs.Prelude.{All, Contains}
use Rattle.std.specs.Ordering.{nat_cmp}
use Rattle.deny_base_lists.specs.Ascending.{Lists}
use Rattle.deny_base.specs.Edge.{edge_cmp}
use Rattle.deny_krates_graph.specs.private.Graph.{edges_from, place_at}
use Rattle.deny_krates_graph.specs.private.Reach.{links_at}
use Rattle.deny_spec.specs.TargetEdge.{edge_of, target_edge_cmp}
use Rattle.deny_spec.specs.declared.target_edge.TargetEdge.{TargetEdge}
use Rattle.deny_krates_graph.proofs.GraphIs.{nodes_apart, nodes_inside, kept_inside}
use Rattle.deny_krates_graph.proofs.ResolvedLemmas.{links_inside, starts_inside}
use Rattle.deny_krates_graph.proofs.read.relations_of.Goals as goal

pub places_by_node-requires-clause-inside : goal.places_by_node-requires-clause-inside
places_by_node-requires-clause-inside c = nodes_inside c.requires.numbered.0 c.args.starts.now c.args.rows.now
    c.requires.numbered.1 c.args.kept.now c.requires.numbered.2

pub places_by_node-requires-clause-apart : goal.places_by_node-requires-clause-apart
places_by_node-requires-clause-apart c = nodes_apart c.requires.numbered.0 c.args.starts.now c.args.rows.now
    c.requires.numbered.1 c.args.kept.now c.requires.numbered.2

pub members_of-requires : goal.members_of-requires
members_of-requires c =
    subst (λ (n : ℕ). All (λ s. s < n) c.args.starts.now)
    (sym (ap (λ (ps : List ℕ). length ps) c.as_slice.ensures ∙ c.in_ok-places.ensures.long))
    (starts_inside c.requires.numbered.0 c.args.starts.now c.args.rows.now c.requires.numbered.2.resolved)

pub target_edges_of-requires-clause-nodes : goal.target_edges_of-requires-clause-nodes
target_edges_of-requires-clause-nodes c = kept_inside c.requires.numbered.0 c.args.starts.now c.args.rows.now
    c.requires.numbered.1 c.args.kept.now c.requires.numbered.2

pub target_edges_of-requires-clause-links : goal.target_edges_of-requires-clause-links
target_edges_of-requires-clause-links c node =
    subst (λ (n : ℕ). All (λ l. l.node < n) (links_at c.args.rows.now node))
    (sym (ap (λ (ps : List ℕ). length ps) c.as_slice-2.ensures ∙ c.in_ok-places.ensures.long))
    (links_inside c.requires.numbered.0 c.args.starts.now c.args.rows.now c.requires.numbered.2.resolved node)

pub returns : goal.returns
returns c = record {
  places = c.in_ok-places.places;
  inverse = c.in_ok-places.ensures;
  members = subst (λ (ps : List ℕ). Lists nat_cmp (Contains (map (place_at ps) c.args.starts.now))
      c.in_ok-members.members) c.as_slice.ensures c.in_ok-members.ensures;
  target_edges = subst (λ (ps : List ℕ). Lists target_edge_cmp
      (Contains (edges_from c.args.rows.now ps 0 c.args.kept.now)) c.in_ok-target_edges.target_edges)
      c.as_slice-2.ensures c.in_ok-target_edges.ensures;
  edges = subst (λ (ts : List TargetEdge). Lists edge_cmp (Contains (map edge_of ts)) c.in_ok-edges.edges)
      c.as_slice-3.ensures c.in_ok-edges.ensures;
}
