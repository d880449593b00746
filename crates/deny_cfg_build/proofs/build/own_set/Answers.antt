use Rattle.std.proofs.Common.{map}
use Rattle.deny_cfg_build.specs.Globs.{own_text}
use Rattle.deny_cfg_build.specs.declared.pattern.GlobPattern.TheVariants.{User}
use Rattle.deny_cfg_build.proofs.BuildLaws.{as_many}
use Rattle.deny_cfg_build.proofs.build.own_set.Goals as goal

pub set_of-requires : goal.set_of-requires
set_of-requires c =
    as_many own_text (map User c.args.globs) c.in_ok-all.all.patterns c.in_ok-all.all.set c.in_ok-all.ensures
