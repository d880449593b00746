use Rattle.std.proofs.Common.{None, arith, option_map, refl}
use Rattle.std.specs.Option.{option_copied}
use Rattle.deny_cfg_build.specs.BuildingView.{building_view, bypass_view}
use Rattle.deny_build_scan.proofs.DecideLemmas.{decided_glob, own_fit}
use Rattle.deny_build_scan.proofs.decide.by_globs.Goals as goal

pub returns-then-len-gt0 : goal.returns-then-len-gt0
returns-then-len-gt0 c =
    decided_glob (building_view c.args.config.now) (option_map bypass_view (option_copied c.args.bypass))
    c.args.path.now None c.in_ok-globs.globs c.requires.allowed refl
    (own_fit c.args.path.now (option_copied c.globs_of.result) (option_copied c.args.bypass) c.in_ok-globs.globs
    c.globs_of.ensures.is c.in_ok-globs.ensures)
    (omega (arith, c.if-len-gt0.true, c.len.ensures))
