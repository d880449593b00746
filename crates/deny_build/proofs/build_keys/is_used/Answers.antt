use Rattle.std.proofs.Common.{◌∙◌}
use Rattle.deny_cfg_build.specs.BuildingView.{bypass_view}
use Rattle.deny_build.specs.ScanningOf.{scanning_of}
use Rattle.deny_build.proofs.ScanLemmas.{is_used_as}
use Rattle.deny_build.proofs.build_keys.is_used.Goals as goal

pub returns : goal.returns
returns c = c.has_user.ensures
    ∙ is_used_as (scanning_of c.args._ctx.now) c.args.users.now c.requires (bypass_view c.args.bypass.now)
