use Rattle.std.proofs.Common.{rules, ◌∙◌, ◌+◌, ◌-◌, arith, sym}
use Rattle.deny_std_table.proofs.TableLemmas.{offsets-more, offsets-break, offsets-none}
use Rattle.deny_std_table.proofs.head.check_offsets.Goals as goal

pub returns-in_err-check_offset : goal.returns-in_err-check_offset
returns-in_err-check_offset c =
    let left = c.args.count - c.loop-i.i in
    let stops = offsets-break c.args.bytes.now c.args.count c.loop-i.i (left - 1) left _ (omega arith)
    (sym c.in_err-check_offset.ensures) in
    rw (sym c.loop-i.invariant ∙ stops) (search rules)

pub loop-i-preserved : goal.loop-i-preserved
loop-i-preserved c =
    sym (offsets-more c.args.bytes.now c.args.count c.loop-i.i (c.args.count - (c.loop-i.i + 1))
    (c.args.count - c.loop-i.i) (omega arith)
    (sym c.in_ok-check_offset.ensures))
    ∙ c.loop-i.invariant

pub returns : goal.returns
returns c = sym (offsets-none c.args.bytes.now c.args.count c.loop-i.i (c.args.count - c.loop-i.i) (omega arith))
    ∙ c.loop-i.invariant
