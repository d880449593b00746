use Rattle.std.proofs.Common.{rules, ◌∙◌, ◌+◌, ◌-◌, arith, sym}
use Rattle.deny_std_table.specs.Width.{width_of}
use Rattle.deny_std_table.specs.Region.{bounds, group}
use Rattle.deny_std_table.proofs.ReadingLemmas.{next_of-many_more, next_of-many_break, next_of-many_none}
use Rattle.deny_std_table.proofs.region.Region.skip_groups.Goals as goal

pub returns-in_err-next : goal.returns-in_err-next
returns-in_err-next c =
    let left = c.args.count - c.loop-place._place in
    let stops = next_of-many_break
    (group (bounds (width_of c.args.self.now.width) c.args.self.now.bytes.now c.args.self.now.stop)) left (left - 1)
    c.loop-place.next _ (omega arith) (sym c.in_err-next.ensures) in
    rw (sym c.loop-place.invariant ∙ stops) (search rules)

pub loop-place-preserved : goal.loop-place-preserved
loop-place-preserved c =
    let left = c.args.count - c.loop-place._place in
    sym (next_of-many_more
    (group (bounds (width_of c.args.self.now.width) c.args.self.now.bytes.now c.args.self.now.stop)) left
    (c.args.count - (c.loop-place._place + 1))
    c.loop-place.next c.in_ok-next.next (omega arith) (sym c.in_ok-next.ensures))
    ∙ c.loop-place.invariant

pub returns : goal.returns
returns c =
    sym (next_of-many_none
    (group (bounds (width_of c.args.self.now.width) c.args.self.now.bytes.now c.args.self.now.stop))
    (c.args.count - c.loop-place._place)
    c.loop-place.next (omega arith))
    ∙ c.loop-place.invariant
