use Rattle.std.proofs.Common.{◌≡◌, ◌-◌}
use Rattle.deny_std_table.specs.Reading.{many}
use Rattle.deny_std_table.specs.private.Reading.{next_of}
use Rattle.deny_std_table.specs.Width.{width_of}
use Rattle.deny_std_table.specs.Region.{bounds, api}
use Rattle.deny_std_table.proofs.region.Region.skip_apis.Given as goal

-- the rest of the APIs ends where all of them end
abbrev pub invariant-loop-index : goal.invariant-loop-index
invariant-loop-index l =
    next_of (many (api (bounds (width_of l.self.width) l.self.bytes.now l.self.stop)) (l.count - l._index) l.next)
    ≡ next_of (many (api (bounds (width_of l.self.width) l.self.bytes.now l.self.stop)) l.count l.at)
