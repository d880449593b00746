use Rattle.std.proofs.Common.{◌≡◌, ◌++◌, filter, map}
use Rattle.deny_cfg.specs.PolicyView.{policy_view}
use Rattle.deny_spec_report.specs.Wildcards.{is_active_in, is_unresolved}
use Rattle.deny_krates.specs.Crates.{crate_view}
use Rattle.deny_spans_manifest.specs.Manifest.{dep_view, deps_in, deps_left}
use Rattle.deny_spans.specs.SpansView.{spans_view}
use Rattle.deny_rules_manifests.specs.private.Wildcards.{unresolved_key_at}
use Rattle.deny_rules_manifests.proofs.wildcard_keys.add_unresolved.Given as goal

abbrev pub invariant-loop-dep : goal.invariant-loop-dep
invariant-loop-dep l =
    l.keys ++ map (unresolved_key_at l.place) (filter (is_unresolved (spans_view l.spans))
    (filter (is_active_in (policy_view l.cfg) l.krates (crate_view l.place l.krate))
    (map dep_view (deps_left l.dep-iterator))))
    ≡ l.fn.keys ++ map (unresolved_key_at l.place) (filter (is_unresolved (spans_view l.spans))
    (filter (is_active_in (policy_view l.cfg) l.krates (crate_view l.place l.krate))
    (map dep_view (deps_in l.manifest))))
