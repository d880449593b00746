use Rattle.std.proofs.Common.{◌<◌, ◌^◌, sym, ℕ, List, Bool, length, subst}
use Rattle.deny_krates_graph.specs.private.Numbered.{IsNumbered, IsResolved}
use Rattle.deny_krates_sources.specs.declared.checked.ResolvedNode.{ResolvedNode}
use Rattle.deny_krates_graph.specs.declared.graph.KeptPackage.{KeptPackage}
use Rattle.deny_krates_graph.proofs.read.put_together.Goals as goal

pub reached_packages-requires-clause-resolved : goal.reached_packages-requires-clause-resolved
reached_packages-requires-clause-resolved c =
    let doc = c.args.document in
    subst (λ (starts : List ℕ). IsResolved doc starts c.as_slice-rows.result.now) (sym c.as_slice-starts.ensures)
    (subst (λ (rows : List ResolvedNode). IsResolved doc c.args.resolution.starts rows) (sym c.as_slice-rows.ensures)
    c.requires.resolved)

pub join-requires-clause-few : goal.join-requires-clause-few
join-requires-clause-few c = subst (λ (ks : List KeptPackage). length ks < 2 ^ 28) (sym c.as_slice.ensures)
    c.in_ok-kept.ensures.few

pub join-requires-clause-numbered : goal.join-requires-clause-numbered
join-requires-clause-numbered c =
    subst (λ (ks : List KeptPackage). (marks : List Bool)
    × IsNumbered c.args.document c.as_slice-starts.result.now c.as_slice-rows.result.now marks ks)
    (sym c.as_slice.ensures) c.in_ok-kept.ensures.numbered
