use Rattle.std.proofs.Common.{◌≡◌, drop, find, map}
use Rattle.deny_build_bypass.specs.private.Components.{has_components_at}
use Rattle.deny_build_bypass.proofs.paths.first_with.Given as goal

abbrev pub invariant-loop-number : goal.invariant-loop-number
invariant-loop-number l =
    find (has_components_at l.files (map (λ name. name.now) l.names)) (drop l.number-index l.numbers)
    ≡ find (has_components_at l.files (map (λ name. name.now) l.names)) l.numbers
