use Rattle.std.proofs.Common.{◌<◌, ◌∙◌, sym, List, length, subst}
use Rattle.std.specs.Prelude.{All}
use Rattle.std.proofs.lemmas.List.Elements.{All-map}
use Rattle.deny_base.specs.declared.edge.Edge.{Edge}
use Rattle.deny_krates_graph.specs.private.Direct.{AreDependencies, AreDependents, reversed}
use Rattle.deny_krates_graph.proofs.DirectLemmas.{rows_reversed}
use Rattle.deny_base_lists.proofs.Results.{if_ok_then}
use Rattle.deny_krates_graph.proofs.direct.dependencies_of.Goals as goal

pub dependents_of-requires-clause-parents : goal.dependents_of-requires-clause-parents
dependents_of-requires-clause-parents c =
    subst (λ (es : List Edge). All (λ e. e.parent < length c.args.krates.now) es)
    (sym (c.as_slice.ensures ∙ c.in_ok-others.ensures))
    (All-map (λ (e : Edge). e.parent < length c.args.krates.now) reversed c.args.edges.now c.requires.children)

pub dependents_of-requires-clause-children : goal.dependents_of-requires-clause-children
dependents_of-requires-clause-children c =
    subst (λ (es : List Edge). All (λ e. e.child < length c.args.krates.now) es)
    (sym (c.as_slice.ensures ∙ c.in_ok-others.ensures))
    (All-map (λ (e : Edge). e.child < length c.args.krates.now) reversed c.args.edges.now c.requires.parents)

pub returns : goal.returns
returns c =
    if_ok_then {Q = AreDependencies c.args.krates.now c.args.edges.now} c.dependents_of.result c.dependents_of.ensures
    (λ rows are targeted root members. rows_reversed targeted root c.args.krates.now members c.args.edges.now rows
    (subst (λ (es : List Edge). AreDependents c.args.krates.now es rows) (c.as_slice.ensures ∙ c.in_ok-others.ensures)
    are targeted root members))
