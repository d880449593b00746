use Rattle.deny_rules_match.specs.private.Groups.{is_left_at}
use Rattle.deny_rules_match.proofs.RunLemmas.{pushed-run}
use Rattle.deny_rules_match.proofs.groups.reduce_run.Goals as goal

pub loop-place-preserved : goal.loop-place-preserved
loop-place-preserved c =
    pushed-run (is_left_at c.args.krates.now c.args.candidates.now c.args.name.now c.args.alone) c.loop-place.reduced
    c.push.new.self _ c.is_left_at.result c.loop-place.place c.args.run.end
    c.in_ok-push.ensures.ok c.is_left_at.ensures c.loop-place-test.true c.loop-place.invariant
