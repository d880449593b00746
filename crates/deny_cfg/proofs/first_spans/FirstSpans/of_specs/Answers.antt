use Rattle.std.proofs.Common.{arith, subst}
use Rattle.deny_base_lists.specs.First.{GainsEntry}
use Rattle.deny_cfg.specs.private.FirstSpans.{entry_span, first_span, same_wording}
use Rattle.deny_cfg.proofs.FirstSpansLaws.{finds_next}
use Rattle.deny_cfg.proofs.first_spans.FirstSpans.of_specs.Goals as goal

pub loop-entry-preserved : goal.loop-entry-preserved
loop-entry-preserved g c =
    let entry = c.entry-item.result in
    finds_next entry_span c.args.entries.now c.loop-entry.entry-index entry c.loop-entry.found c.add.new.self
    (omega (arith, c.loop-entry-test.true)) c.entry-item.is
    c.loop-entry.invariant
    (subst
    (λ w. GainsEntry same_wording w entry.spec.name.span (first_span c.loop-entry.found) (first_span c.add.new.self))
    c.in_ok-of_spec.ensures c.in_ok-add.ensures)
