use Rattle.std.proofs.Common.{◌≡◌, ◌++◌, ◌-◌, map, filter, take, drop}
use Rattle.deny_krates.specs.Crates.{crates_from}
use Rattle.deny_rules_crates.specs.private.Duplicates.{is_unmarked, placed_view}
use Rattle.deny_rules_crates.proofs.duplicates.unmarked_of.Given as goal

abbrev pub invariant-loop-place : goal.invariant-loop-place
invariant-loop-place l =
    map placed_view l.candidates.items ++ filter (is_unmarked l.groups)
    (take (l.fn.run.end - l.place) (drop l.place (crates_from 0 l.all)))
    ≡ filter (is_unmarked l.groups) (take (l.fn.run.end - l.fn.run.start) (drop l.fn.run.start (crates_from 0 l.all)))
