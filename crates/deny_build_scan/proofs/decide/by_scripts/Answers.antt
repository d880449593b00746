use Rattle.std.proofs.Common.{arith, option_map}
use Rattle.std.specs.Option.{option_copied}
use Rattle.deny_cfg_build.specs.BuildingView.{building_view, bypass_view}
use Rattle.deny_build_scan.proofs.DecideLemmas.{decided_header, decided_script, script_fit}
use Rattle.deny_build_scan.proofs.decide.by_scripts.Goals as goal

pub returns-then-len-gt0 : goal.returns-then-len-gt0
returns-then-len-gt0 c =
    decided_script (building_view c.args.config.now) (option_map bypass_view (option_copied c.args.bypass))
    c.args.path.now c.in_ok-globs.globs c.requires.allowed c.requires.own
    (script_fit c.args.path.now c.args.config.now.script_extensions.patterns c.in_ok-globs.globs c.in_ok-globs.ensures)
    (omega (arith, c.if-len-gt0.true, c.len.ensures))

pub returns : goal.returns
returns c =
    decided_header (building_view c.args.config.now) (option_map bypass_view (option_copied c.args.bypass))
    c.args.path.now c.in_ok-globs.globs c.requires.allowed c.requires.own
    (script_fit c.args.path.now c.args.config.now.script_extensions.patterns c.in_ok-globs.globs c.in_ok-globs.ensures)
    (omega (arith, c.if-len-gt0.false, c.len.ensures))
