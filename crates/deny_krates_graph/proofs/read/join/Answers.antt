use Rattle.std.proofs.Common.{◌≡◌, ◌<◌, ◌^◌, ◌∙◌, sym, ap, refl, ℕ, List, length, subst}
use Rattle.std.specs.Prelude.{All}
use Rattle.std.specs.List.{AllZip}
use Rattle.deny_krates_graph.specs.private.Graph.{IsKrateOf}
use Rattle.deny_krates_graph.specs.Read.{IsGraph, graph_read}
use Rattle.deny_spec.specs.Graph.{Graph}
use Rattle.deny_krates_metadata.specs.declared.document.Document.{Document}
use Rattle.deny_krates_metadata.specs.declared.node.MetadataNode.{MetadataNode}
use Rattle.deny_krates_graph.specs.declared.graph.KeptPackage.{KeptPackage}
use Rattle.deny_krates_graph.specs.declared.krate.Krate.{Krate}
use Rattle.deny_krates_graph.proofs.GraphIs.{kept_inside, owners_apart, owners_kept}
use Rattle.deny_base_lists.proofs.Results.{if_ok_then}
use Rattle.deny_krates_graph.proofs.OrderlyLemmas.{joined, joined_names, joined_orderly}
use Rattle.deny_krates_graph.proofs.ResolvedLemmas.{rows_long, zip_long}
use Rattle.deny_krates_graph.proofs.read.join.Goals as goal

pub relations_of-requires-clause-numbered : goal.relations_of-requires-clause-numbered
relations_of-requires-clause-numbered c = (c.args.document, c.requires.numbered.0, c.requires.numbered.1)

pub krates_of-requires-clause-packages : goal.krates_of-requires-clause-packages
krates_of-requires-clause-packages c = owners_kept c.args.document c.args.starts.now c.args.rows.now
    c.requires.numbered.0 c.args.kept.now c.requires.numbered.1

pub krates_of-requires-clause-apart : goal.krates_of-requires-clause-apart
krates_of-requires-clause-apart c = owners_apart c.args.document c.args.starts.now c.args.rows.now
    c.requires.numbered.0 c.args.kept.now c.requires.numbered.1

pub krates_of-requires-clause-nodes : goal.krates_of-requires-clause-nodes
krates_of-requires-clause-nodes c =
    subst (λ (n : ℕ). All (λ k. k.node < n) c.args.kept.now)
    (sym (rows_long c.args.document c.args.starts.now c.args.rows.now c.requires.numbered.1.resolved) ∙ ap
    (λ (ns : List MetadataNode). length ns) (sym c.as_slice.ensures))
    (kept_inside c.args.document c.args.starts.now c.args.rows.now c.requires.numbered.0 c.args.kept.now
    c.requires.numbered.1)

pub with_neighbours-requires-clause-few : goal.with_neighbours-requires-clause-few
with_neighbours-requires-clause-few c = subst (λ (n : ℕ). n < 2 ^ 28)
    (zip_long _ c.args.kept.now c.in_ok-krates.krates c.in_ok-krates.ensures) c.requires.few

abbrev as_listed : (doc : Document) (nodes : List MetadataNode) (kept : List KeptPackage) (krates : List Krate)
    → nodes ≡ doc.nodes → AllZip (IsKrateOf doc.packages nodes) kept krates
    → AllZip (IsKrateOf doc.packages doc.nodes) kept krates
as_listed doc nodes kept krates same zip =
    subst (λ (ns : List MetadataNode). AllZip (IsKrateOf doc.packages ns) kept krates)
    same zip

pub with_neighbours-requires-clause-names : goal.with_neighbours-requires-clause-names
with_neighbours-requires-clause-names c =
    joined_names c.args.document c.args.starts.now c.args.rows.now c.requires.numbered.0 c.args.kept.now
    c.requires.numbered.1 c.in_ok-krates.krates
    (as_listed c.args.document _ c.args.kept.now c.in_ok-krates.krates c.as_slice.ensures c.in_ok-krates.ensures)

pub with_neighbours-requires-clause-orderly : goal.with_neighbours-requires-clause-orderly
with_neighbours-requires-clause-orderly c =
    let zip = as_listed c.args.document _ c.args.kept.now c.in_ok-krates.krates c.as_slice.ensures
    c.in_ok-krates.ensures in
    let r = c.in_ok-relations.relations in
    let are = c.in_ok-relations.ensures in
    joined_orderly c.args.document c.args.starts.now c.args.rows.now c.requires.numbered.0 c.args.kept.now
    c.requires.numbered.1 are.places are.inverse r.members are.members r.target_edges are.target_edges r.edges are.edges
    c.args.document.workspace_root c.in_ok-krates.krates zip

pub returns-clause-graph : goal.returns-clause-graph
returns-clause-graph c =
    let zip = as_listed c.args.document _ c.args.kept.now c.in_ok-krates.krates c.as_slice.ensures
    c.in_ok-krates.ensures in
    let r = c.in_ok-relations.relations in
    let are = c.in_ok-relations.ensures in
    let graph = joined c.args.document c.args.starts.now c.args.rows.now c.requires.numbered.0 c.args.kept.now
    c.requires.numbered.1 are.places are.inverse r.members are.members r.target_edges are.target_edges r.edges are.edges
    c.args.document.workspace_root c.in_ok-krates.krates refl zip in
    if_ok_then {Q = λ g. IsGraph c.args.document (graph_read g)} c.with_neighbours.result
    c.with_neighbours.ensures.graph (λ g is. subst (λ (h : Graph). IsGraph c.args.document h) (sym is) graph)
