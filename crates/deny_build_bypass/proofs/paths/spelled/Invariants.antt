use Rattle.std.proofs.Common.{◌≡◌, ◌++◌, drop, map}
use Rattle.deny_build_bypass.specs.private.Paths.{spelled}
use Rattle.deny_build_bypass.proofs.paths.spelled.Given as goal

abbrev pub invariant-loop-name : goal.invariant-loop-name
invariant-loop-name l =
    l.text ++ spelled (map (λ name. name.now) (drop l.name-index l.names)) ≡ spelled (map (λ name. name.now) l.names)
