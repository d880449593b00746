use Rattle.std.proofs.Common.{◌<◌, ◌∙◌, ℕ, List, Bool, sym, subst}
use Rattle.std.specs.Prelude.{All}
use Rattle.deny_base.specs.declared.edge.Edge.{Edge}
use Rattle.deny_krates_graph.specs.Crates.{graph_of}
use Rattle.deny_krates_graph.specs.Filtered.{AreMarks}
use Rattle.deny_spec.specs.Graph.{Graph}
use Rattle.deny_krates_graph.proofs.OrderlyLemmas.{children_inside, members_inside, parents_inside}
use Rattle.deny_krates_graph.proofs.CratesLemmas.{length-crates_from}
use Rattle.deny_krates.proofs.krates.Krates.krates_filtered.Goals as goal

pub reached_without-requires-clause-members : goal.reached_without-requires-clause-members
reached_without-requires-clause-members c =
    let k = c.self.inside in
    subst (λ (ms : List ℕ). All (λ place. place < c.len.result) ms) (sym c.as_slice.ensures)
    (subst (λ (n : ℕ). All (λ place. place < n) k.members) (sym c.len.ensures)
    (members_inside k.target_edges k.root k.krates k.members k.edges c.self.invariant.orderly))

pub reached_without-requires-clause-parents : goal.reached_without-requires-clause-parents
reached_without-requires-clause-parents c =
    let k = c.self.inside in
    subst (λ (es : List Edge). All (λ e. e.parent < c.len.result) es) (sym c.as_slice-2.ensures)
    (subst (λ (n : ℕ). All (λ e. e.parent < n) k.edges) (sym c.len.ensures)
    (parents_inside k.target_edges k.root k.krates k.members k.edges c.self.invariant.orderly))

pub reached_without-requires-clause-children : goal.reached_without-requires-clause-children
reached_without-requires-clause-children c =
    let k = c.self.inside in
    subst (λ (es : List Edge). All (λ e. e.child < c.len.result) es) (sym c.as_slice-2.ensures)
    (subst (λ (n : ℕ). All (λ e. e.child < n) k.edges) (sym c.len.ensures)
    (children_inside k.target_edges k.root k.krates k.members k.edges c.self.invariant.orderly))

pub returns : goal.returns
returns c =
    let k = c.self.inside in
    subst (λ (bs : List Bool). AreMarks c.args.kind c.args.self.now bs) (sym c.marks.view_is)
    (subst (λ (g : Graph). AreMarks c.args.kind g c.in_ok-marks.marks) c.self.view_is
    (c.in_ok-marks.ensures (graph_of k.target_edges k.root k.krates k.members k.edges) (sym c.as_slice.ensures)
    (sym c.as_slice-2.ensures) (length-crates_from 0 k.krates ∙ sym c.len.ensures)))
