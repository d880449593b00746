use Rattle.std.proofs.Common.{map, refl, arith}
use Rattle.deny_krates.specs.krate.DirectDependent.{DirectDependent}
use Rattle.deny_base_lists.proofs.Loops.{pushed_all}
use Rattle.deny_rules_crates.proofs.DependentKeyLemmas.{key_at, reported_are}
use Rattle.deny_rules_crates.proofs.banned.add_reported_keys_at.Goals as goal

pub returns : goal.returns
returns c =
    let g = c.args.krates.now in
    let ds = c.direct_dependents-dependents.result.now in
    reported_are g c.args.place ds c.are_placed.ensures c.direct_dependents-dependents.ensures c.args.spans.now
    c.args.entry c.args.keys.now c.loop-dependent.keys
    (pushed_all (map (λ (d : DirectDependent). key_at g c.args.spans.now c.args.entry c.args.place d.place)) ds
    c.loop-dependent.dependent-index c.loop-dependent.keys _ refl (omega arith) c.loop-dependent.invariant)
