use Rattle.std.proofs.Common.{arith, ◌∙◌}
use Rattle.deny_spans_manifest.proofs.SectionLemmas.{section_next}
use Rattle.deny_spans_manifest.proofs.sections.add_section.Goals as goal

pub loop-entry-preserved : goal.loop-entry-preserved
loop-entry-preserved c = λ keyed finds. section_next c.args.target c.args.kind c.args.section.now
    c.loop-entry.entry-index _ c.in_ok-from_str.field-0 keyed c.loop-entry.entries c.add.new.self
    (omega (arith, c.loop-entry-test.true)) c.entry-item.is (c.in_ok-from_str.ensures ∙ c.as_str.ensures)
    (c.loop-entry.invariant keyed finds) c.in_ok-add.ensures
