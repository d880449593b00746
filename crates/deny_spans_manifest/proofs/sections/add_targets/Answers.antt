use Rattle.std.proofs.Common.{List, ap, append-nil, arith, subst, sym, ◌∙◌}
use Rattle.deny_spans_manifest.proofs.SectionLemmas.{targets_next}
use Rattle.deny_spans_manifest.specs.private.Sections.{FindsKeyed, KeyedEntry, targets_keyed}
use Rattle.deny_spans_manifest.specs.private.Targets.{number_of}
use Rattle.deny_spans_manifest.proofs.sections.add_targets.Goals as goal

pub loop-entry-init : goal.loop-entry-init
unfolding targets_keyed
loop-entry-init c = λ agrees reports names numbers keyed finds.
    subst (λ (es : List KeyedEntry). FindsKeyed es c.args.entries.now) (sym (append-nil keyed)) finds

pub loop-entry-preserved : goal.loop-entry-preserved
loop-entry-preserved c = λ agrees reports names numbers keyed finds.
    subst (λ (es : List KeyedEntry). FindsKeyed es c.add_sections.new.entries)
    (targets_next (number_of agrees names) c.args.keys.now c.loop-entry.entry-index c.entry-item.result
    c.in_ok-number.number keyed (omega (arith, c.loop-entry-test.true)) c.entry-item.is
    (c.in_ok-number.ensures agrees reports names numbers ∙ ap (number_of agrees names) c.as_str.ensures))
    (c.in_ok-add_sections.ensures _ (c.loop-entry.invariant agrees reports names numbers keyed finds))
