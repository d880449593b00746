use Rattle.std.proofs.Common.{List, ap, subst, sym, ◌∙◌}
use Rattle.std.specs.Prelude.{IsTrue, is_some}
use Rattle.deny_base.specs.declared.span.Span.{Span}
use Rattle.deny_cfg.specs.PolicyView.{entry_view}
use Rattle.deny_cfg.specs.PackageSpecOrExtended.{PackageSpecOrExtended}
use Rattle.deny_cfg.specs.Waiver.{Waiver}
use Rattle.deny_spec.specs.Policy.{Entry}
use Rattle.deny_spec.specs.Wrappers.{same_span}
use Rattle.deny_diags_parts.specs.BySpan.{first_of}
use Rattle.deny_diags.specs.declared.entry_numbers.EntryList.TheVariants.{Skip}
use Rattle.deny_diags.specs.private.EntryNumbers.{AreNumbered}
use Rattle.deny_diags.proofs.ReportedLemmas.{seen_at, there_below}
use Rattle.deny_diags.proofs.writer.DiagWriter.skip.Goals as goal

pub first-requires : goal.first-requires
first-requires c =
    let self = c.args.self.now in
    let span_of : PackageSpecOrExtended Waiver → Span = λ e. e.spec.name.span in
    record {
      numbered = subst (λ (es : List (PackageSpecOrExtended Waiver)). AreNumbered span_of Skip es self.numbers)
          (sym c.as_slice-skipped.ensures) self.entries_numbered.skip;
      there = subst (λ (es : List (PackageSpecOrExtended Waiver)). IsTrue (is_some (first_of span_of c.args.span es)))
          (sym c.as_slice-skipped.ensures)
          (there_below (λ (e : Entry). same_span e.spec.span c.args.span) entry_view self.ctx.cfg.now.skipped
          c.requires);
    }

pub returns : goal.returns
returns c =
    let self = c.args.self.now in
    let span_of : PackageSpecOrExtended Waiver → Span = λ e. e.spec.name.span in
    seen_at (λ (e : Entry). same_span e.spec.span c.args.span) entry_view self.ctx.cfg.now.skipped c.first.result.now
    (sym (ap (first_of span_of c.args.span) c.as_slice-skipped.ensures) ∙ c.first.ensures)
