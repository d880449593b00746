use Rattle.std.proofs.Common.{List, map, refl, arith}
use Rattle.deny_krates.specs.Crates.{crates_from}
use Rattle.deny_spec.specs.Graph.{Crate}
use Rattle.deny_rules_crates.specs.private.Duplicates.{is_unmarked, placed_view}
use Rattle.deny_rules_match.proofs.RunLemmas.{run-step}
use Rattle.deny_rules_crates.proofs.duplicates.unmarked_of.Goals as goal

pub loop-place-preserved : goal.loop-place-preserved
loop-place-preserved c =
    run-step (is_unmarked c.args.groups.now) (λ (cs : List Crate). cs) (λ xs ys. refl) (crates_from 0 c.args.all.now)
    (map placed_view c.loop-place.candidates.items)
    (map placed_view c.keep.new.candidates.items) _ c.loop-place.place c.args.run.end
    (omega arith) c.in_ok-keep.ensures c.loop-place.invariant
