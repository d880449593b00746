use Rattle.std.proofs.Common.{List, ap, subst, sym, ◌∙◌}
use Rattle.std.specs.Prelude.{IsTrue, is_some}
use Rattle.deny_base.specs.declared.span.Span.{Span}
use Rattle.deny_cfg.specs.PolicyView.{feature_view}
use Rattle.deny_cfg.specs.declared.bans.cfg.valid.ValidKrateFeatures.{ValidKrateFeatures}
use Rattle.deny_spec.specs.Policy.{FeatureEntry}
use Rattle.deny_spec.specs.Wrappers.{same_span}
use Rattle.deny_diags_parts.specs.BySpan.{first_of}
use Rattle.deny_diags.specs.declared.entry_numbers.EntryList.TheVariants.{Features}
use Rattle.deny_diags.specs.private.EntryNumbers.{AreNumbered}
use Rattle.deny_diags.proofs.ReportedLemmas.{seen_at, there_below}
use Rattle.deny_diags.proofs.writer.DiagWriter.feature_entry.Goals as goal

pub first-requires : goal.first-requires
first-requires c =
    let self = c.args.self.now in
    let span_of : ValidKrateFeatures → Span = λ e. e.spec.name.span in
    record {
      numbered = subst (λ (es : List (ValidKrateFeatures)). AreNumbered span_of Features es self.numbers)
          (sym c.as_slice-entries.ensures) self.entries_numbered.features;
      there = subst (λ (es : List (ValidKrateFeatures)). IsTrue (is_some (first_of span_of c.args.span es)))
          (sym c.as_slice-entries.ensures)
          (there_below (λ (e : FeatureEntry). same_span e.spec.span c.args.span) feature_view
          self.ctx.cfg.now.features c.requires);
    }

pub returns : goal.returns
returns c =
    let self = c.args.self.now in
    let span_of : ValidKrateFeatures → Span = λ e. e.spec.name.span in
    seen_at (λ (e : FeatureEntry). same_span e.spec.span c.args.span) feature_view self.ctx.cfg.now.features
    c.first.result.now (sym (ap (first_of span_of c.args.span) c.as_slice-entries.ensures) ∙ c.first.ensures)
