use Rattle.std.proofs.Common.{◌≡◌, map}
use Rattle.std.specs.Prelude.{find}
use Rattle.deny_spans_manifest.specs.Manifest.{dep_view, deps_in, deps_left}
use Rattle.deny_spec.specs.Wrappers.{same_span}
use Rattle.deny_diags_manifests.proofs.wildcards.declared_at.Given as goal

abbrev pub invariant-loop-dep : goal.invariant-loop-dep
invariant-loop-dep l = find (λ d. same_span d.key l.span) (map dep_view (deps_left l.dep-iterator))
    ≡ find (λ d. same_span d.key l.span) (map dep_view (deps_in l.manifest))
