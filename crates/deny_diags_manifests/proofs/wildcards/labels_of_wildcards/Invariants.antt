use Rattle.std.proofs.Common.{◌≡◌, ◌++◌, filter, map}
use Rattle.std.specs.List.{flat_map}
use Rattle.deny_spec_report.specs.Wildcards.{is_active_in, labels_of_wildcard}
use Rattle.deny_krates.specs.Crates.{crate_view}
use Rattle.deny_spans_manifest.specs.Manifest.{dep_view, deps_in, deps_left}
use Rattle.deny_diags_parts.specs.Context.{circumstances_from}
use Rattle.deny_diags_manifests.proofs.wildcards.labels_of_wildcards.Given as goal

abbrev pub invariant-loop-dep : goal.invariant-loop-dep
invariant-loop-dep l =
    let c = circumstances_from l.ctx in
    let active = is_active_in c.policy c.graph (crate_view l.place l.krate) in
    let labels_of = labels_of_wildcard c.view l.manifest.id in
    l.labels ++ flat_map labels_of (filter active (map dep_view (deps_left l.dep-iterator)))
    ≡ flat_map labels_of (filter active (map dep_view (deps_in l.manifest)))
