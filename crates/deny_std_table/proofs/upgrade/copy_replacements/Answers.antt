use Rattle.std.proofs.Common.{rules, ◌+◌, ◌-◌, arith, sym, ap}
use Rattle.deny_std_table.specs.private.Reading.{next_of}
use Rattle.deny_std_table.specs.Width.{width_of}
use Rattle.deny_std_table.specs.Region.{bounds, replacement}
use Rattle.deny_std_table.specs.Spelling.{replacement_text, replacement_bytes}
use Rattle.deny_std_table.proofs.CopyLemmas.{progress-start, progress-more, progress-break, progress-value}
use Rattle.deny_std_table.proofs.CopyLemmas.{progress-written, broken-nothing, writes-read}
use Rattle.deny_std_table.proofs.CursorSteps.{replacement-in}
use Rattle.deny_std_table.proofs.upgrade.copy_replacements.Goals as goal

pub loop-index-init : goal.loop-index-init
loop-index-init c =
    let b = bounds (width_of c.args.region.now.width) c.args.region.now.bytes.now c.args.region.now.stop in
    progress-start (replacement b) (replacement_text b.bytes) replacement_bytes c.args.count c.args.at _ _ (omega arith)

pub returns-in_err-read-clause-value : goal.returns-in_err-read-clause-value
returns-in_err-read-clause-value c =
    let b = bounds (width_of c.args.region.now.width) c.args.region.now.bytes.now c.args.region.now.stop in
    let left = c.args.count - c.loop-index._index in
    let stops = progress-break (replacement b) (replacement_text b.bytes) replacement_bytes c.args.count c.args.at left
    (left - 1)
    c.loop-index.next _ _ _ (omega arith) (ap next_of (sym c.in_err-read.ensures)) c.loop-index.invariant in
    rw stops (search rules)

pub returns-in_err-read-clause-written : goal.returns-in_err-read-clause-written
returns-in_err-read-clause-written c = λ r is.
    let b = bounds (width_of c.args.region.now.width) c.args.region.now.bytes.now c.args.region.now.stop in
    let left = c.args.count - c.loop-index._index in
    let stops = progress-break (replacement b) (replacement_text b.bytes) replacement_bytes c.args.count c.args.at left
    (left - 1)
    c.loop-index.next _ _ _ (omega arith) (ap next_of (sym c.in_err-read.ensures)) c.loop-index.invariant in
    absurd (broken-nothing _ _ r stops is)

pub put_replacement-requires : goal.put_replacement-requires
put_replacement-requires c =
    let b = bounds (width_of c.args.region.now.width) c.args.region.now.bytes.now c.args.region.now.stop in
    replacement-in b c.loop-index.next c.in_ok-read.read c.args.region.now.within (sym c.in_ok-read.ensures)

pub loop-index-preserved : goal.loop-index-preserved
loop-index-preserved c =
    let b = bounds (width_of c.args.region.now.width) c.args.region.now.bytes.now c.args.region.now.stop in
    let left = c.args.count - c.loop-index._index in
    progress-more (replacement b) (replacement_text b.bytes) replacement_bytes c.args.count c.args.at left
    (c.args.count - (c.loop-index._index + 1)) c.loop-index.next c.in_ok-read.read.next _ _ _ (omega arith)
    (ap next_of (sym c.in_ok-read.ensures))
    (λ r is. writes-read (replacement b) (replacement_text b.bytes) replacement_bytes _ _ _ _ r
    (sym c.in_ok-read.ensures) is
    c.put_replacement.ensures)
    c.loop-index.invariant

pub returns-clause-value : goal.returns-clause-value
returns-clause-value c =
    let b = bounds (width_of c.args.region.now.width) c.args.region.now.bytes.now c.args.region.now.stop in
    let left = c.args.count - c.loop-index._index in
    progress-value (replacement b) (replacement_text b.bytes) replacement_bytes c.args.count c.args.at left
    c.loop-index.next _ _ (omega arith) c.loop-index.invariant

pub returns-clause-written : goal.returns-clause-written
returns-clause-written c =
    let b = bounds (width_of c.args.region.now.width) c.args.region.now.bytes.now c.args.region.now.stop in
    let left = c.args.count - c.loop-index._index in
    progress-written (replacement b) (replacement_text b.bytes) replacement_bytes c.args.count c.args.at left
    c.loop-index.next _ _ (omega arith) c.loop-index.invariant
