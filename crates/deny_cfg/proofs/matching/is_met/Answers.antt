use Rattle.semver.proofs.EvalViews.{matches_all-views}
use Rattle.deny_cfg.proofs.matching.is_met.Goals as goal

pub returns-in-Some : goal.returns-in-Some
returns-in-Some c = rw (c.matches.ensures, c.in-Some.is) (matches_all-views _ c.args.version.now)
