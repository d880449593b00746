use Rattle.deny_cfg_build.specs.Build.{IsBypassOf}
use Rattle.deny_cfg_build.proofs.BuildLaws.{zip_next}
use Rattle.deny_cfg_build.proofs.build.bypasses_of.Goals as goal

pub entries-preserved : goal.entries-preserved
entries-preserved c =
    zip_next IsBypassOf c.entries.yielded c.entries.all c.in-Some.entry c.in_ok-bypass_of.field-0 _
    c.entries.invariant c.in_ok-bypass_of.ensures c.in_ok-push.ensures.ok
