use Rattle.deny_cfg.proofs.CurrentLaws.{counting_build}
use Rattle.deny_cfg.proofs.expired.take_from_build.Goals as goal

pub returns-in-Some-clause-current : goal.returns-in-Some-clause-current
returns-in-Some-clause-current c =
    counting_build c.args.today c.take_expired.result c.args.build.now c.in-Some.build c.take_expired.new.entries _
    c.in-Some.is c.take_expired.ensures.counting
