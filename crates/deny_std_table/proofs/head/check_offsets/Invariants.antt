use Rattle.std.proofs.Common.{◌≡◌, ◌-◌}
use Rattle.deny_std_table.specs.Head.{offsets}
use Rattle.deny_std_table.proofs.head.check_offsets.Given as goal

-- the rest of the offsets has the break of all offsets
abbrev pub invariant-loop-i : goal.invariant-loop-i
invariant-loop-i l = offsets l.bytes l.count l.i (l.count - l.i) ≡ offsets l.bytes l.count 0 l.count
