use Rattle.std.proofs.Common.{◌≤◌, ◌-◌, take}
use Rattle.deny_rules_crates.specs.private.Duplicates.{AddsDuplicates}
use Rattle.deny_rules_crates.proofs.duplicates.add_duplicate_keys.Given as goal

abbrev pub invariant-loop-next : goal.invariant-loop-next
invariant-loop-next l = record {
  within : l.next ≤ l.size;
  so_far : AddsDuplicates l.krates l.policy (take l.next l.krates.crates) l.fn.keys l.keys;
}

abbrev pub decreases-loop-next : goal.decreases-loop-next
decreases-loop-next l = l.size - l.next
