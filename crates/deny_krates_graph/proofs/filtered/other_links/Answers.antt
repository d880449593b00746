use Rattle.std.proofs.Common.{◌<◌, ◌+◌, ◌∙◌, ap, sym, subst, ℕ, List, Vec, Global, take}
use Rattle.std.specs.Prelude.{◌++◌, ◌∷◌, [], slice_index_or}
use Rattle.std.proofs.lemmas.Option.{slice_get-get_or}
use Rattle.deny_base_lists.proofs.Indices.{slice_get-read}
use Rattle.deny_base.specs.declared.edge.DepKind.TheVariants.{Normal}
use Rattle.deny_krates_graph.specs.private.OtherLinks.{AreOtherLinks, link_of}
use Rattle.deny_krates_sources.specs.declared.checked.Link.{Link}
use Rattle.deny_krates_sources.specs.declared.checked.ResolvedNode.{ResolvedNode}
use Rattle.deny_krates_graph.proofs.FilteredLemmas.{just_of, not_of, ways_more, ways_skip}
use Rattle.deny_krates_graph.proofs.GraphLemmas.{links_of_row}
use Rattle.deny_krates_graph.proofs.filtered.other_links.Goals.{then-ne+in_ok-push, else-ne}
use Rattle.deny_krates_graph.proofs.filtered.other_links.Goals as goal

pub loop-edge-preserved : goal.loop-edge-preserved
loop-edge-preserved c =
    let edges = c.args.edges.now in
    let i = c.loop-edge.edge-index in
    elim c.if-ne.branch [
      | then-ne+in_ok-push w ↦
          let row = w.index_mut-row.result.now in
          let e = slice_index_or edges i (record { parent = 0; child = 0; kind = Normal }) in
          let within : e.parent < c.args.crates = c.requires.parents i (record { parent = 0; child = 0; kind = Normal })
          c.loop-edge-test.true in
          subst (λ (v : Vec ResolvedNode Global). AreOtherLinks c.args.kind (take (i + 1) edges) c.args.crates v.items)
          (sym w.rows-is)
          (ways_more c.args.kind edges c.args.crates c.loop-edge.rows.items i e _ c.loop-edge.invariant
          (slice_get-get_or edges i (record { parent = 0; child = 0; kind = Normal }) c.loop-edge-test.true)
          (not_of c.args.kind e c.ne.result c.ne.ensures w.if-ne.true) within
          (w.in_ok-push.ensures.ok ∙ ap (λ (ls : List Link). ls ++ link_of e ∷ [])
          (sym (links_of_row c.loop-edge.rows.items e.parent row
          (slice_get-read c.loop-edge.rows.items e.parent row
          (subst (λ (n : ℕ). e.parent < n) (sym c.loop-edge.invariant.long) within) w.index_mut-row.ensures.value)))))
      | else-ne w ↦
          subst (λ (v : Vec ResolvedNode Global). AreOtherLinks c.args.kind (take (i + 1) edges) c.args.crates v.items)
          (sym w.rows-is)
          (ways_skip c.args.kind edges c.args.crates c.loop-edge.rows.items i
          (slice_index_or edges i (record { parent = 0; child = 0; kind = Normal })) c.loop-edge.invariant
          (slice_get-get_or edges i (record { parent = 0; child = 0; kind = Normal }) c.loop-edge-test.true)
          (just_of c.args.kind (slice_index_or edges i (record { parent = 0; child = 0; kind = Normal })) c.ne.result
          c.ne.ensures w.if-ne.false))
    ]
