use Rattle.std.proofs.Common.{◌≡◌, ◌-◌}
use Rattle.deny_std_table.specs.Reading.{many}
use Rattle.deny_std_table.specs.private.Reading.{next_of}
use Rattle.deny_std_table.specs.Width.{width_of}
use Rattle.deny_std_table.specs.Region.{bounds, group}
use Rattle.deny_std_table.proofs.region.Region.skip_groups.Given as goal

-- the rest of the groups ends where all of them end
abbrev pub invariant-loop-index : goal.invariant-loop-index
invariant-loop-index l =
    next_of (many (group (bounds (width_of l.self.width) l.self.bytes.now l.self.stop)) (l.count - l._index) l.next)
    ≡ next_of (many (group (bounds (width_of l.self.width) l.self.bytes.now l.self.stop)) l.count l.at)
