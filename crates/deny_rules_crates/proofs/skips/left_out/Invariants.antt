use Rattle.std.proofs.Common.{◌≡◌, ◌++◌, ◌-◌, filter}
use Rattle.std.specs.List.{range_with_len}
use Rattle.deny_rules_crates.specs.private.Skipping.{is_left_out}
use Rattle.deny_rules_crates.proofs.skips.left_out.Given as goal

abbrev pub invariant-loop-place : goal.invariant-loop-place
invariant-loop-place l =
    l.places ++ filter (is_left_out l.counts l.skipped l.tree) (range_with_len l.place (l.fn.end - l.place)) ≡ filter
    (is_left_out l.counts l.skipped l.tree) (range_with_len 0 l.fn.end)
