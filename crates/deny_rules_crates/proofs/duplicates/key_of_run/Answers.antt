use Rattle.std.proofs.Common.{◌-◌, List, take, drop, filter, sym, ap, ◌∙◌, subst, arith}
use Rattle.std.specs.List.{IsDistinct}
use Rattle.deny_spec.specs.Graph.{Crate}
use Rattle.deny_rules_crates.specs.private.Duplicates.{is_unmarked, same_id}
use Rattle.deny_krates.proofs.PlaceLemmas.{length_of}
use Rattle.deny_rules_crates.proofs.VersionLemmas.{distinct-run}
use Rattle.deny_rules_crates.proofs.duplicates.key_of_run.Goals as goal

pub unmarked_of-requires-clause-within : goal.unmarked_of-requires-clause-within
unmarked_of-requires-clause-within c =
    omega (arith, c.requires.within, length_of c.krates.result.now c.args.krates.now.crates c.krates.ensures.crates)

pub put_by_version-requires : goal.put_by_version-requires
put_by_version-requires c =
    let size = c.args.run.end - c.args.run.start in
    let kept = is_unmarked c.args.policy.now.groups.now in
    let are = c.in_ok-candidates.ensures ∙ ap (λ (cs : List Crate). filter kept
    (take size (drop c.args.run.start cs))) c.krates.ensures.crates in
    subst (λ (cs : List Crate). IsDistinct same_id cs) (sym are)
    (distinct-run c.args.krates.now.crates kept size c.args.run.start c.krates.ensures.orderly.ids)
