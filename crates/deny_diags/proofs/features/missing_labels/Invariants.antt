use Rattle.std.proofs.Common.{◌≡◌, ◌++◌, ◌∷◌, drop, filter, map}
use Rattle.std.specs.Prelude.{codes, not}
use Rattle.std.specs.List.{list_any}
use Rattle.deny_spec.specs.Text.{same_text}
use Rattle.deny_spec.specs.DiagParts.{primary}
use Rattle.deny_diags.proofs.features.missing_labels.Given as goal

abbrev pub invariant-loop-name : goal.invariant-loop-name
invariant-loop-name l =
    l.labels ++ map (λ w. primary l.file w.span (codes "allowed feature not present"))
    (filter (λ w. not (list_any (same_text w.value) l.enabled)) (drop l.name-index l.entry.features.allow.value))
    ≡ primary l.file l.entry.features.exact.span (codes "exact enabled here")
    ∷ map (λ w. primary l.file w.span (codes "allowed feature not present"))
    (filter (λ w. not (list_any (same_text w.value) l.enabled)) l.entry.features.allow.value)
