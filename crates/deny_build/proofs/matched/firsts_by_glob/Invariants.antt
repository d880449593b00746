use Rattle.std.proofs.Common.{ℕ, List, map, take}
use Rattle.std.specs.FinMap as finite
use Rattle.deny_build.specs.private.FileMatch.{IsFirstAt, matches_glob, matched_view}
use Rattle.deny_build.proofs.matched.firsts_by_glob.Given as goal

abbrev pub invariant-loop-number : goal.invariant-loop-number
invariant-loop-number l = (text : List ℕ)
    → IsFirstAt (matches_glob text) (map matched_view (take l.number l.all)) (finite.get l.firsts text)
