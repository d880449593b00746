use Rattle.std.proofs.Common.{◌≡◌, ◌++◌, drop, filter, is_some, map, not}
use Rattle.std.specs.FinMap as finite
use Rattle.deny_base.specs.declared.code.Code.TheVariants.{UnmatchedGlob}
use Rattle.deny_cfg_build.specs.BuildingView.{words_of}
use Rattle.deny_spec.specs.Keys.{crate_key}
use Rattle.deny_build.proofs.unmatched.add_unmatched_globs.Given as goal

abbrev pub invariant-loop-pattern : goal.invariant-loop-pattern
invariant-loop-pattern l =
    l.keys ++ map (λ w. crate_key UnmatchedGlob l.place w.span)
    (filter (λ w. not (is_some (finite.get l.firsts w.value))) (map words_of (drop l.pattern-index l.globs)))
    ≡ l.fn.keys ++ map (λ w. crate_key UnmatchedGlob l.place w.span)
    (filter (λ w. not (is_some (finite.get l.firsts w.value))) (map words_of l.globs))
