use Rattle.std.proofs.Common.{◌<◌, ◌^◌, ap, sym, List, length, subst}
use Rattle.std.specs.Prelude.{All}
use Rattle.deny_base.specs.declared.edge.Edge.{Edge}
use Rattle.deny_krates_graph.specs.private.Direct.{AreApart, AreDependencies, AreDependents}
use Rattle.deny_krates_graph.specs.Bounds.{lock_length, node_count}
use Rattle.deny_krates_graph.specs.Crates.{crates_from}
use Rattle.deny_krates_graph.specs.IdEntries.{AreIds}
use Rattle.deny_krates_graph.specs.Read.{IsSound, graph_read}
use Rattle.deny_krates_graph.specs.declared.krate.Krate.{Krate}
use Rattle.deny_krates_graph.proofs.OrderlyLemmas.{apart_of, children_inside, parents_inside}
use Rattle.deny_krates_graph.proofs.read.with_neighbours.Goals as goal

pub neighbours_of-requires-clause-few : goal.neighbours_of-requires-clause-few
neighbours_of-requires-clause-few c = subst (λ (ks : List Krate). length ks < 2 ^ 28) (sym c.as_slice-2.ensures)
    c.requires.few

pub neighbours_of-requires-clause-apart : goal.neighbours_of-requires-clause-apart
neighbours_of-requires-clause-apart c =
    let r = c.args.relations in
    subst (λ (ks : List Krate). AreApart ks) (sym c.as_slice-2.ensures)
    (apart_of r.target_edges c.args.root c.args.krates r.members r.edges c.requires.orderly)

pub neighbours_of-requires-clause-parents : goal.neighbours_of-requires-clause-parents
neighbours_of-requires-clause-parents c =
    let r = c.args.relations in
    subst (λ (ks : List Krate). All (λ e. e.parent < length ks) c.as_slice-3.result.now) (sym c.as_slice-2.ensures)
    (subst (λ (es : List Edge). All (λ e. e.parent < length c.args.krates) es) (sym c.as_slice-3.ensures)
    (parents_inside r.target_edges c.args.root c.args.krates r.members r.edges c.requires.orderly))

pub neighbours_of-requires-clause-children : goal.neighbours_of-requires-clause-children
neighbours_of-requires-clause-children c =
    let r = c.args.relations in
    subst (λ (ks : List Krate). All (λ e. e.child < length ks) c.as_slice-3.result.now) (sym c.as_slice-2.ensures)
    (subst (λ (es : List Edge). All (λ e. e.child < length c.args.krates) es) (sym c.as_slice-3.ensures)
    (children_inside r.target_edges c.args.root c.args.krates r.members r.edges c.requires.orderly))

pub returns-clause-graph : goal.returns-clause-graph
returns-clause-graph c = ap graph_read c.whole_graph.ensures

pub returns-clause-sound : goal.returns-clause-sound
returns-clause-sound c =
    let r = c.args.relations in
    let n = c.in_ok-neighbours.neighbours in
    let are = c.in_ok-neighbours.ensures in
    subst IsSound (sym c.whole_graph.ensures) record {
      few = c.requires.few;
      names = c.requires.names;
      orderly = c.requires.orderly;
      dependent_rows =
          subst (λ (ks : List Krate). AreDependents ks r.edges n.dependents) c.as_slice-2.ensures
          (subst (λ (es : List Edge). AreDependents c.as_slice-2.result.now es n.dependents)
          c.as_slice-3.ensures are.dependents) r.target_edges c.args.root r.members;
      dependency_rows =
          subst (λ (ks : List Krate). AreDependencies ks r.edges n.dependencies) c.as_slice-2.ensures
          (subst (λ (es : List Edge). AreDependencies c.as_slice-2.result.now es n.dependencies)
          c.as_slice-3.ensures are.dependencies) r.target_edges c.args.root r.members;
      ids = subst (λ (ks : List Krate). AreIds ks n.ids) c.as_slice-2.ensures are.ids;
      lock = subst (λ (ks : List Krate). lock_length (crates_from 0 ks) < 2 ^ 29) c.as_slice.ensures
          c.in_ok-check_bounds.ensures.lock;
      nodes = subst (λ (ks : List Krate). node_count (crates_from 0 ks) < 2 ^ 32) c.as_slice.ensures
          c.in_ok-check_bounds.ensures.nodes;
    }
