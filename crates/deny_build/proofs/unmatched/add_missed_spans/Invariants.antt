use Rattle.std.proofs.Common.{◌≡◌, ◌++◌, drop, filter, map, not}
use Rattle.deny_base.specs.declared.code.Code.TheVariants.{UnmatchedPathBypass}
use Rattle.deny_cfg_build.specs.BuildingView.{path_view}
use Rattle.deny_spec_report.specs.PackageFiles.{path_span}
use Rattle.deny_spec.specs.Keys.{crate_key}
use Rattle.deny_build.specs.private.Unmatched.{is_path_matched}
use Rattle.deny_build.proofs.unmatched.add_missed_spans.Given as goal

abbrev pub invariant-loop-path : goal.invariant-loop-path
invariant-loop-path l =
    l.keys ++ map (λ a. crate_key UnmatchedPathBypass l.place (path_span a))
    (filter (λ a. not (is_path_matched l.firsts a)) (map path_view (drop l.path-index l.paths)))
    ≡ l.fn.keys ++ map (λ a. crate_key UnmatchedPathBypass l.place (path_span a))
    (filter (λ a. not (is_path_matched l.firsts a)) (map path_view l.paths))
