use Rattle.std.proofs.Common.{◌≡◌, ◌++◌, drop, filter, map}
use Rattle.deny_spec.specs.Paths.{is_component}
use Rattle.deny_build_bypass.proofs.paths.select_components.Given as goal

abbrev pub invariant-loop-part : goal.invariant-loop-part
invariant-loop-part l =
    map (λ name. name.now) l.names.items ++ filter is_component (map (λ part. part.now) (drop l.part-index l.parts))
    ≡ filter is_component (map (λ part. part.now) l.parts)
