use Rattle.std.proofs.Common.{arith}
use Rattle.deny_rules_match.proofs.RunLemmas.{pushed-span}
use Rattle.deny_rules_crates.proofs.allowed.all_places.Goals as goal

pub loop-place-preserved : goal.loop-place-preserved
loop-place-preserved c = pushed-span c.loop-place.places c.push.new.self _ c.loop-place.place c.args.crates
    (omega arith) c.in_ok-push.ensures.ok c.loop-place.invariant
