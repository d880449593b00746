use Rattle.std.proofs.Common.{◌≡◌, ◌<◌, ◌+◌, ◌∙◌, List, Some, length, refl, sym, subst, ap}
use Rattle.std.specs.Prelude.{slice_get}
use Rattle.deny_base_lists.proofs.Indices.{slice_get-read}
use Rattle.deny_krates_graph.specs.private.Graph.{IsKeptNode, listed}
use Rattle.deny_krates_graph.specs.Packages.{rank_of}
use Rattle.deny_krates_sources.specs.declared.checked.ResolvedNode.{ResolvedNode}
use Rattle.deny_krates_metadata.specs.declared.package.MetadataPackage.{MetadataPackage}
use Rattle.deny_krates_graph.specs.declared.graph.KeptPackage.{KeptPackage}
use Rattle.deny_krates_graph.proofs.GraphLemmas.{IsGathered, gathered_more, gathered_skip, listed_is}
use Rattle.deny_krates_graph.proofs.graph.gather.Goals.{then-marks-node+in_ok-rank_in+in_ok-push, else-marks-node}
use Rattle.deny_krates_graph.proofs.graph.gather.Goals as goal

pub loop-node-preserved : goal.loop-node-preserved
loop-node-preserved c =
    let packages = c.args.packages.now in
    let rows = c.args.rows.now in
    let marks = c.args.marks.now in
    let node = c.loop-node.node in
    let row = c.index-rows-node.result in
    let at = slice_get-read rows node row c.loop-node-test.true c.index-rows-node.is in
    elim c.if-marks-node.branch [
      | then-marks-node+in_ok-rank_in+in_ok-push w ↦
          let owned : row.owner < length packages = subst (λ (r : ResolvedNode). r.owner < length packages)
          (sym c.index-rows-node.is) (c.requires.owned node row c.loop-node-test.true) in
          let package_there = w.index-packages-row.result in
          let owner = slice_get-read packages row.owner package_there owned w.index-packages-row.is in
          let k : KeptPackage = record { rank = w.in_ok-rank_in.field-0; owner = row.owner; node = node } in
          let of : listed packages k ≡ package_there = listed_is packages k package_there owner in
          let is : IsKeptNode packages rows marks k = record {
            row = row;
            at = at;
            marked = w.if-marks-node.true;
            owner = refl;
            holds = subst (λ (p : MetadataPackage). slice_get packages row.owner ≡ Some p) (sym of) owner;
            ranked = w.in_ok-rank_in.ensures ∙ ap rank_of (sym of);
          } in
          subst (λ (ks : List KeptPackage). IsGathered packages rows marks ks (node + 1))
          (sym (w.kept-is ∙ w.in_ok-push.ensures.ok))
          (gathered_more packages rows marks c.loop-node.kept k c.loop-node.invariant is)
      | else-marks-node w ↦
          subst (λ (ks : List KeptPackage). IsGathered packages rows marks ks (node + 1)) (sym w.kept-is)
          (gathered_skip packages rows marks c.loop-node.kept node c.loop-node.invariant w.if-marks-node.false)
    ]
