use Rattle.std.proofs.Common.{Some, arith, option_map}
use Rattle.std.specs.Option.{option_copied}
use Rattle.deny_cfg_build.specs.BuildingView.{building_view, bypass_view, path_view}
use Rattle.deny_build_scan.proofs.DecideLemmas.{decided_glob, decided_path, decided_sum, own_fit, path_alone}
use Rattle.deny_build_scan.proofs.DecideLemmas.{path_leaves}
use Rattle.deny_build_scan.proofs.DecideLemmas.{path_summed}
use Rattle.deny_build_scan.proofs.decide.by_path.Goals as goal

pub returns-then-is_none : goal.returns-then-is_none
returns-then-is_none c =
    decided_path (building_view c.args.config.now) (option_map bypass_view (option_copied c.args.bypass))
    c.args.path.now (path_view c.args.file.now) c.new.result c.requires.allowed
    (path_alone c.args.file.now c.if-is_none.ensures)
    c.new.ensures

pub returns-then-len-gt0 : goal.returns-then-len-gt0
returns-then-len-gt0 c =
    decided_glob (building_view c.args.config.now) (option_map bypass_view (option_copied c.args.bypass))
    c.args.path.now (Some (path_view c.args.file.now)) c.in_ok-globs.globs c.requires.allowed
    (path_leaves c.args.file.now c.if-is_none.ensures)
    (own_fit c.args.path.now (option_copied c.globs_of.result) (option_copied c.args.bypass) c.in_ok-globs.globs
    c.globs_of.ensures.is c.in_ok-globs.ensures)
    (omega (arith, c.if-len-gt0.true, c.len.ensures))

pub returns : goal.returns
returns c =
    let sum = path_summed c.args.file.now c.if-is_none.ensures in
    decided_sum (building_view c.args.config.now) (option_map bypass_view (option_copied c.args.bypass))
    c.args.path.now (path_view c.args.file.now) sum.0 c.in_ok-globs.globs c.requires.allowed sum.1
    (own_fit c.args.path.now (option_copied c.globs_of.result) (option_copied c.args.bypass) c.in_ok-globs.globs
    c.globs_of.ensures.is c.in_ok-globs.ensures)
    (omega (arith, c.if-len-gt0.false, c.len.ensures))
