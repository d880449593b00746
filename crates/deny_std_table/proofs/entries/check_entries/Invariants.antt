use Rattle.std.proofs.Common.{◌≡◌, ◌+◌, ◌-◌, ◌≤◌, None, length}
use Rattle.std.specs.Option.{ForSome}
use Rattle.deny_std_table.specs.private.Reading.{done_of}
use Rattle.deny_std_table.specs.Width.{width_of}
use Rattle.deny_std_table.specs.Entries.{entries}
use Rattle.deny_std_table.proofs.entries.check_entries.Given as goal

-- the rest of the entries has the break of all entries
abbrev pub invariant-loop-i : goal.invariant-loop-i
invariant-loop-i l = record {
  same : done_of (entries (width_of l.width) l.bytes l.count l.before l.i (l.count - l.i))
      ≡ done_of (entries (width_of l.width) l.bytes l.count None 0 l.count);
  inside : ForSome l.before (λ p. p.at + p.size ≤ length l.bytes);
}
