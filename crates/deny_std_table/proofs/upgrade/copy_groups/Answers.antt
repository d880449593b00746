use Rattle.std.proofs.Common.{rules, ◌+◌, ◌-◌, arith, sym}
use Rattle.deny_std_table.specs.Width.{width_of}
use Rattle.deny_std_table.specs.Region.{bounds, group}
use Rattle.deny_std_table.specs.Spelling.{group_text, group_bytes}
use Rattle.deny_std_table.proofs.CopyLemmas.{progress-start, progress-more, progress-break, progress-value}
use Rattle.deny_std_table.proofs.CopyLemmas.{progress-written, broken-nothing}
use Rattle.deny_std_table.proofs.upgrade.copy_groups.Goals as goal

pub loop-index-init : goal.loop-index-init
loop-index-init c =
    let b = bounds (width_of c.args.region.now.width) c.args.region.now.bytes.now c.args.region.now.stop in
    progress-start (group b) (group_text b.bytes) group_bytes c.args.count c.args.at _ _ (omega arith)

pub returns-in_err-next-clause-value : goal.returns-in_err-next-clause-value
returns-in_err-next-clause-value c =
    let b = bounds (width_of c.args.region.now.width) c.args.region.now.bytes.now c.args.region.now.stop in
    let left = c.args.count - c.loop-index._index in
    let stops = progress-break (group b) (group_text b.bytes) group_bytes c.args.count c.args.at left (left - 1)
    c.loop-index.next _ _ _ (omega arith) (sym c.in_err-next.ensures.value) c.loop-index.invariant in
    rw stops (search rules)

pub returns-in_err-next-clause-written : goal.returns-in_err-next-clause-written
returns-in_err-next-clause-written c = λ r is.
    let b = bounds (width_of c.args.region.now.width) c.args.region.now.bytes.now c.args.region.now.stop in
    let left = c.args.count - c.loop-index._index in
    let stops = progress-break (group b) (group_text b.bytes) group_bytes c.args.count c.args.at left (left - 1)
    c.loop-index.next _ _ _ (omega arith) (sym c.in_err-next.ensures.value) c.loop-index.invariant in
    absurd (broken-nothing _ _ r stops is)

pub loop-index-preserved : goal.loop-index-preserved
loop-index-preserved c =
    let b = bounds (width_of c.args.region.now.width) c.args.region.now.bytes.now c.args.region.now.stop in
    let left = c.args.count - c.loop-index._index in
    progress-more (group b) (group_text b.bytes) group_bytes c.args.count c.args.at left
    (c.args.count - (c.loop-index._index + 1)) c.loop-index.next c.in_ok-next.next _ _ _ (omega arith)
    (sym c.in_ok-next.ensures.value)
    c.in_ok-next.ensures.written
    c.loop-index.invariant

pub returns-clause-value : goal.returns-clause-value
returns-clause-value c =
    let b = bounds (width_of c.args.region.now.width) c.args.region.now.bytes.now c.args.region.now.stop in
    let left = c.args.count - c.loop-index._index in
    progress-value (group b) (group_text b.bytes) group_bytes c.args.count c.args.at left
    c.loop-index.next _ _ (omega arith) c.loop-index.invariant

pub returns-clause-written : goal.returns-clause-written
returns-clause-written c =
    let b = bounds (width_of c.args.region.now.width) c.args.region.now.bytes.now c.args.region.now.stop in
    let left = c.args.count - c.loop-index._index in
    progress-written (group b) (group_text b.bytes) group_bytes c.args.count c.args.at left
    c.loop-index.next _ _ (omega arith) c.loop-index.invariant
