use Rattle.std.proofs.Common.{ℕ, ◌+◌, ◌*◌, ◌≤◌, length}
use Rattle.deny_krates_metadata.proofs.PrunedLemmas.{GoOn, KeepOn}
use Rattle.deny_krates_metadata.proofs.pruned.+pruned.Given as goal

abbrev pub decreases-read : goal.decreases-read
decreases-read l = 2 * l.depth

abbrev pub decreases-read_items : goal.decreases-read_items
decreases-read_items l = 2 * l.depth + 1

abbrev pub decreases-read_members : goal.decreases-read_members
decreases-read_members l = 2 * l.depth + 1

abbrev pub invariant-read_items-loop-alloc : goal.invariant-read_items-loop-alloc
invariant-read_items-loop-alloc l =
    (n : ℕ) × (length l.reader ≤ n) × (length l.reader ≤ length l.initial.reader)
    × GoOn l.selection l.depth n l.initial.reader l.reader l.found.items

abbrev pub decreases-read_items-loop-alloc : goal.decreases-read_items-loop-alloc
decreases-read_items-loop-alloc l = length l.reader

abbrev pub invariant-read_members-loop-found : goal.invariant-read_members-loop-found
invariant-read_members-loop-found l =
    (n : ℕ) × (length l.reader ≤ n) × (length l.reader ≤ length l.initial.reader)
    × KeepOn l.selection l.depth n l.initial.reader l.reader l.found.items

abbrev pub decreases-read_members-loop-found : goal.decreases-read_members-loop-found
decreases-read_members-loop-found l = length l.reader
