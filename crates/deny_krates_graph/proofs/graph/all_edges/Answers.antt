use Rattle.std.proofs.Common.{◌≡◌, ◌<◌, ◌++◌, ◌∙◌, sym, ap, subst, List, length, map, append_assoc}
use Rattle.std.specs.Prelude.{All}
use Rattle.deny_base_lists.proofs.Indices.{slice_get-read}
use Rattle.deny_krates_graph.specs.private.Graph.{edge_to}
use Rattle.deny_krates_graph.specs.private.Reach.{links_at}
use Rattle.deny_krates_sources.specs.declared.checked.Link.{Link}
use Rattle.deny_krates_sources.specs.declared.checked.ResolvedNode.{ResolvedNode}
use Rattle.deny_krates_graph.specs.declared.graph.KeptPackage.{KeptPackage}
use Rattle.deny_krates_graph.proofs.GraphLemmas.{edges_next, links_of_row}
use Rattle.deny_krates_graph.proofs.graph.all_edges.Goals as goal

pub push_edges-requires : goal.push_edges-requires
push_edges-requires c =
    let rows = c.args.rows.now in
    let node = c.index-kept-place.result.node in
    let inside : node < length rows = subst (λ (k : KeptPackage). k.node < length rows) (sym c.index-kept-place.is)
    (c.requires.nodes c.loop-place.place c.index-kept-place.result c.loop-place-test.true) in
    let links = links_of_row rows node c.index-rows-each.result
    (slice_get-read rows node c.index-rows-each.result inside c.index-rows-each.is) in
    let same : c.as_slice.result.now ≡ links_at rows node = c.as_slice.ensures
    ∙ (ap (λ (r : ResolvedNode). r.links) (sym c.index-rows-each.is) ∙ sym links) in
    subst (λ (ls : List Link). All (λ l. l.node < length c.args.places.now) ls) (sym same) (c.requires.links node)

pub loop-place-preserved : goal.loop-place-preserved
loop-place-preserved c =
    let rows = c.args.rows.now in
    let places = c.args.places.now in
    let place = c.loop-place.place in
    let node = c.index-kept-place.result.node in
    let inside : node < length rows = subst (λ (k : KeptPackage). k.node < length rows) (sym c.index-kept-place.is)
    (c.requires.nodes place c.index-kept-place.result c.loop-place-test.true) in
    let links = links_of_row rows node c.index-rows-each.result
    (slice_get-read rows node c.index-rows-each.result inside c.index-rows-each.is) in
    let same : c.as_slice.result.now ≡ links_at rows node = c.as_slice.ensures
    ∙ (ap (λ (r : ResolvedNode). r.links) (sym c.index-rows-each.is) ∙ sym links) in
    let next = edges_next rows places c.args.kept.now place c.index-kept-place.result c.loop-place-test.true
    c.index-kept-place.is in
    let pushed = c.in_ok-push_edges.ensures ∙ ap
    (λ (ls : List Link). c.loop-place.edges ++ map (edge_to places place) ls) same in
    rw (pushed, append_assoc, ← next) c.loop-place.invariant
