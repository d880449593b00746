use Rattle.std.proofs.Common.{◌≡◌, vec_len}
use Rattle.deny_cases_spdx.proofs.assignment.Given as goal

abbrev pub invariant-loop-number : goal.invariant-loop-number
invariant-loop-number l = vec_len l.values ≡ l.number
