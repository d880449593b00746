use Rattle.std.proofs.Common.{Err, ap}
use Rattle.deny_cfg_build.proofs.GlobLaws.{one_gathered, none_gathered}
use Rattle.deny_cfg_build.proofs.gathered.GatheredGlobs.gather.Goals as goal

pub returns-in-Ok : goal.returns-in-Ok
returns-in-Ok c =
    one_gathered c.args.text.now c.args.pattern c.in-Ok.glob c.args.self.now.patterns c.args.self.now.set _ _
    record { characters = c.in-Ok.ensures.characters; tokens = c.in-Ok.ensures.ok; only = c.in-Ok.ensures.only }
    c.in_ok-push-in-Ok.ensures.ok c.in_ok-add-in-Ok.ensures.ok

pub returns-in-Err-Bad : goal.returns-in-Err-Bad
returns-in-Err-Bad c =
    none_gathered c.args.text.now c.args.pattern c.in-Err-Bad.field-0-0 c.args.self.now.patterns c.args.self.now.set
    (c.in-Err-Bad.ensures.bad c.in-Err-Bad.field-0-0 (ap Err c.in-Err-Bad.field-0-is))
