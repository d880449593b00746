use Rattle.std.proofs.Common.{◌≡◌, ◌≤◌, ◌-◌, map, take}
use Rattle.deny_rules_match.specs.Groups.{is_left}
use Rattle.deny_rules_match.specs.Marks.{marked}
use Rattle.deny_rules_match.proofs.groups.reduced_of.Given as goal

abbrev pub invariant-loop-next : goal.invariant-loop-next
invariant-loop-next l = record {
  within : l.next ≤ l.size;
  so_far : l.reduced ≡ map (is_left l.krates
      (marked l.candidates)) (take l.next l.krates.crates);
}

abbrev pub decreases-loop-next : goal.decreases-loop-next
decreases-loop-next l = l.size - l.next
