use Rattle.std.proofs.Common.{◌≡◌, drop, find}
use Rattle.deny_std.specs.private.Ignored.{matches_at}
use Rattle.deny_std.proofs.ignored.first_span.Given as goal

abbrev pub invariant-loop-number : goal.invariant-loop-number
invariant-loop-number l =
    find (matches_at l.entries l.krate) (drop l.number-index l.numbers) ≡ find (matches_at l.entries l.krate) l.numbers
