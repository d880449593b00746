use Rattle.std.proofs.Common.{rules, ◌∙◌, ◌+◌, ◌-◌, ap, arith, sym}
use Rattle.deny_std_table.specs.private.Reading.{next_of}
use Rattle.deny_std_table.specs.Width.{width_of}
use Rattle.deny_std_table.specs.Region.{bounds, replacement}
use Rattle.deny_std_table.proofs.ReadingLemmas.{next_of-many_more, next_of-many_break, next_of-many_none}
use Rattle.deny_std_table.proofs.region.Region.skip_replacements.Goals as goal

pub returns-in_err-next : goal.returns-in_err-next
returns-in_err-next c =
    let left = c.args.count - c.loop-index._index in
    let stops = next_of-many_break
    (replacement (bounds (width_of c.args.self.now.width) c.args.self.now.bytes.now c.args.self.now.stop)) left
    (left - 1)
    c.loop-index.next _ (omega arith) (ap next_of (sym c.in_err-next.ensures)) in
    rw (sym c.loop-index.invariant ∙ stops) (search rules)

pub loop-index-preserved : goal.loop-index-preserved
loop-index-preserved c =
    let left = c.args.count - c.loop-index._index in
    sym (next_of-many_more
    (replacement (bounds (width_of c.args.self.now.width) c.args.self.now.bytes.now c.args.self.now.stop)) left
    (c.args.count - (c.loop-index._index + 1))
    c.loop-index.next c.in_ok-next.field-0.next (omega arith) (ap next_of (sym c.in_ok-next.ensures)))
    ∙ c.loop-index.invariant

pub returns : goal.returns
returns c =
    sym (next_of-many_none
    (replacement (bounds (width_of c.args.self.now.width) c.args.self.now.bytes.now c.args.self.now.stop))
    (c.args.count - c.loop-index._index)
    c.loop-index.next (omega arith))
    ∙ c.loop-index.invariant
