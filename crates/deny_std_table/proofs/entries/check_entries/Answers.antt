use Rattle.std.proofs.Common.{rules, ◌∙◌, ◌+◌, ◌-◌, arith, sym, ap}
use Rattle.deny_std_table.specs.Width.{width_of}
use Rattle.deny_std_table.proofs.TableLemmas.{entries-more, entries-break, entries-none, name_of-region}
use Rattle.deny_std_table.proofs.TableLemmas.{span_in-region}
use Rattle.deny_std_table.proofs.entries.check_entries.Goals as goal

pub returns-in_err-check_entry : goal.returns-in_err-check_entry
returns-in_err-check_entry c =
    let left = c.args.count - c.loop-i.i in
    let broken = name_of-region (width_of c.args.width) _ c.args.bytes.now _ c.args.count c.loop-i.i _ _ _ _
    (ap width_of c.region_of-region.ensures.width) c.region_of-region.ensures.bytes
    c.region_of-region.ensures.stop c.start_of.ensures c.in_err-check_entry.ensures.value in
    let stops = entries-break (width_of c.args.width) c.args.bytes.now c.args.count c.loop-i.before c.loop-i.i
    (left - 1) left _ (omega arith) broken in
    rw (sym c.loop-i.invariant.same ∙ stops) (search rules)

pub loop-i-preserved : goal.loop-i-preserved
loop-i-preserved c =
    let holds = name_of-region (width_of c.args.width) _ c.args.bytes.now _ c.args.count c.loop-i.i _ _ _ _
    (ap width_of c.region_of-region.ensures.width) c.region_of-region.ensures.bytes
    c.region_of-region.ensures.stop c.start_of.ensures c.in_ok-check_entry.ensures.value in
    record {
      same = sym (entries-more (width_of c.args.width) c.args.bytes.now c.args.count c.loop-i.before c.loop-i.i
          (c.args.count - (c.loop-i.i + 1))
          (c.args.count - c.loop-i.i) _ (omega arith) holds) ∙ c.loop-i.invariant.same;
      inside = λ x is. span_in-region c.args.bytes.now _ _ x c.region_of-region.ensures.bytes
          c.in_ok-check_entry.ensures.inside is;
    }

pub returns : goal.returns
returns c = sym (entries-none (width_of c.args.width) c.args.bytes.now c.args.count c.loop-i.before c.loop-i.i
    (c.args.count - c.loop-i.i) (omega arith))
    ∙ c.loop-i.invariant.same
