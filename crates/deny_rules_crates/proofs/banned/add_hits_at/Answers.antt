use Rattle.std.proofs.Common.{refl, arith}
use Rattle.std.specs.Prelude.{filter_map}
use Rattle.deny_krates.specs.krate.DirectDependent.{DirectDependent}
use Rattle.deny_rules_match.specs.Wrappers.{span_at}
use Rattle.deny_base_lists.proofs.Loops.{pushed_all}
use Rattle.deny_rules_crates.proofs.DependentKeyLemmas.{hits_are}
use Rattle.deny_rules_crates.proofs.banned.add_hits_at.Goals as goal

pub returns : goal.returns
returns c =
    let g = c.args.krates.now in
    let ds = c.direct_dependents-dependents.result.now in
    hits_are g c.args.place ds c.are_placed.ensures c.direct_dependents-dependents.ensures c.args.spans.now
    c.args.hits.now c.loop-dependent.hits
    (pushed_all (filter_map
    (λ (d : DirectDependent). span_at g c.args.spans.now d.place)) ds c.loop-dependent.dependent-index
    c.loop-dependent.hits _ refl (omega arith) c.loop-dependent.invariant)
