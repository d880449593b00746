use Rattle.std.proofs.Common.{map, take}
use Rattle.deny_base.specs.declared.span.Span.{Span}
use Rattle.deny_build.specs.private.FileMatch.{IsFirstAt, matches_path, matched_view, number_at}
use Rattle.deny_build.proofs.matched.firsts_by_path.Given as goal

abbrev pub invariant-loop-number : goal.invariant-loop-number
invariant-loop-number l = (span : Span)
    → IsFirstAt (matches_path span) (map matched_view (take l.number l.all)) (number_at l.firsts span)
