use Rattle.std.proofs.Common.{◌≡◌, map}
use Rattle.std.specs.List.{list_any}
use Rattle.deny_cfg.specs.PolicyView.{policy_view}
use Rattle.deny_spec_report.specs.Wildcards.{is_active_in}
use Rattle.deny_krates.specs.Crates.{crate_view}
use Rattle.deny_spans_manifest.specs.Manifest.{dep_view, deps_in, deps_left}
use Rattle.deny_rules_manifests.proofs.wildcard_keys.has_wildcard.Given as goal

abbrev pub invariant-loop-dep : goal.invariant-loop-dep
invariant-loop-dep l =
    list_any (is_active_in (policy_view l.cfg) l.krates (crate_view l.place l.krate))
    (map dep_view (deps_left l.dep-iterator))
    ≡ list_any (is_active_in (policy_view l.cfg) l.krates (crate_view l.place l.krate))
    (map dep_view (deps_in l.manifest))
