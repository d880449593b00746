use Rattle.std.proofs.Common.{◌≡◌, ◌++◌, drop, map}
use Rattle.std.specs.Prelude.{filter_map, slice_get}
use Rattle.deny_cfg_build.proofs.fitting.patterns_at.Given as goal

abbrev pub invariant-loop-index : goal.invariant-loop-index
invariant-loop-index l =
    map (λ pattern. pattern.now) l.all.items ++ filter_map (slice_get l.patterns) (drop l.index-index l.indices)
    ≡ filter_map (slice_get l.patterns) l.indices
