use Rattle.std.proofs.Common.{◌<◌, ◌+◌, ◌∙◌, List, ap, arith, length, refl, subst, sym}
use Rattle.std.specs.Prelude.{◌&&◌, filter, not}
use Rattle.deny_krates_graph.specs.Crates.{graph_of}
use Rattle.deny_krates.specs.private.Resolved.{AreBetween, is_before}
use Rattle.deny_krates.specs.declared.resolved.ResolvedAt.{ResolvedAt}
use Rattle.deny_krates.proofs.DeclaredLemmas.{between_are}
use Rattle.deny_krates.proofs.NodeLemmas.{placed}
use Rattle.deny_krates_graph.proofs.CratesLemmas.{length-crates_from}
use Rattle.deny_krates.proofs.krates.Krates.resolved_between.Goals as goal
use Rattle.deny_spec.specs.Graph.{Graph}

pub resolved_between-requires-clause-few : goal.resolved_between-requires-clause-few
resolved_between-requires-clause-few c =
    let k = c.self.inside in
    let inside = subst (λ (g : Graph). c.args.parent < length g.crates) (sym c.self.view_is) c.requires in
    omega (arith, c.self.invariant.few, length-crates_from 0 k.krates, inside)

pub returns : goal.returns
returns c =
    let k = c.self.inside in
    let g = graph_of k.target_edges k.root k.krates k.members k.edges in
    let child = c.args.child in
    let parent = c.args.parent in
    subst (λ (h : Graph). AreBetween h child parent c.resolved_between.result.now) c.self.view_is
    (subst (λ (rs : List ResolvedAt). AreBetween g child parent rs)
    (sym (c.resolved_between.ensures
    ∙ ap (λ (rs : List ResolvedAt). filter (λ r. not (is_before r.child r.parent child parent)
    && is_before r.child r.parent child (parent + 1)) rs) c.as_slice.ensures))
    (between_are g (placed k.krates g refl) k.resolved child parent c.self.invariant.declarations))
