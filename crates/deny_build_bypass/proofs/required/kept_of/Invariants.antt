use Rattle.std.proofs.Common.{◌≡◌, ◌++◌, drop, filter, map}
use Rattle.std.specs.List.{list_any}
use Rattle.deny_spec.specs.Text.{same_text}
use Rattle.deny_build_bypass.proofs.required.kept_of.Given as goal

abbrev pub invariant-loop-feature : goal.invariant-loop-feature
invariant-loop-feature l =
    map (λ w. w.now) l.kept.items ++ filter (λ w. list_any (same_text w.value) l.features)
    (drop l.feature-index l.required)
    ≡ filter (λ w. list_any (same_text w.value) l.features) l.required
