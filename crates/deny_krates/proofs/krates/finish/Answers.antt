use Rattle.std.proofs.Common.{◌≡◌, ◌<◌, ◌^◌, ◌∙◌, ap, sym, List, length, subst}
use Rattle.std.specs.Cmp.Lexicographic.{slice_cmp}
use Rattle.std.specs.List.Sorted.{IsSortedByKey, IsStrictlySortedBy}
use Rattle.std.specs.Ordering.{nat_cmp}
use Rattle.deny_spec.specs.TargetEdge.{target_edge_cmp}
use Rattle.deny_spec.specs.declared.target_edge.TargetEdge.{TargetEdge}
use Rattle.deny_krates_graph.specs.Bounds.{node_count}
use Rattle.deny_krates_graph.specs.Crates.{crates_from}
use Rattle.deny_krates_graph.specs.Read.{graph_read}
use Rattle.deny_krates.specs.private.NodeNumbers.{features_from}
use Rattle.deny_krates_graph.proofs.CratesLemmas.{length-crates_from}
use Rattle.deny_krates_graph.specs.declared.krate.Krate.{Krate}
use Rattle.deny_krates.proofs.krates.finish.Goals as goal

pub invariant_of-result : goal.invariant_of-result
invariant_of-result c =
    let graph = c.args.graph in
    record {
      few = c.requires.few;
      names = c.requires.names;
      orderly = c.requires.orderly;
      dependent_rows = c.requires.dependent_rows;
      dependency_rows = c.requires.dependency_rows;
      ids = c.requires.ids;
      lock = c.requires.lock;
      nodes = c.requires.nodes;
      first_features = subst
          (λ (ks : List Krate). c.in_ok-starts.starts ≡ features_from (length ks) (crates_from 0 ks)) c.as_slice.ensures
          c.in_ok-starts.ensures
          ∙ ap (λ n. features_from n (crates_from 0 graph.krates)) (sym (length-crates_from 0 graph.krates));
      declarations = c.in_ok-resolved.ensures (graph_read graph)
          (ap (crates_from 0) (sym c.as_slice-2.ensures)) (sym c.as_slice-3.ensures);
    }

pub first_features-requires : goal.first_features-requires
first_features-requires c =
    subst (λ (ks : List Krate). node_count (crates_from 0 ks) < 2 ^ 32) (sym c.as_slice.ensures) c.requires.nodes

pub resolved_of-requires-clause-few : goal.resolved_of-requires-clause-few
resolved_of-requires-clause-few c = subst (λ (ks : List Krate). length ks < 2 ^ 28) (sym c.as_slice-2.ensures)
    c.requires.few

pub resolved_of-requires-clause-names : goal.resolved_of-requires-clause-names
resolved_of-requires-clause-names c =
    subst (λ (ks : List Krate). IsSortedByKey (λ k. k.name) (slice_cmp nat_cmp) ks) (sym c.as_slice-2.ensures)
    c.requires.names

pub resolved_of-requires-clause-edges : goal.resolved_of-requires-clause-edges
resolved_of-requires-clause-edges c =
    subst (λ (ts : List TargetEdge). IsStrictlySortedBy target_edge_cmp ts) (sym c.as_slice-3.ensures)
    c.requires.orderly.target_edges_ascend
