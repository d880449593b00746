use Rattle.std.proofs.Common.{List, ap, subst, sym, ◌∙◌}
use Rattle.std.specs.Prelude.{IsTrue, is_some}
use Rattle.deny_base.specs.declared.span.Span.{Span}
use Rattle.deny_cfg.specs.PolicyView.{allow_view}
use Rattle.deny_cfg.specs.PackageSpecOrExtended.{PackageSpecOrExtended}
use Rattle.deny_cfg.specs.Reason.{Reason}
use Rattle.deny_spec.specs.Policy.{AllowEntry}
use Rattle.deny_spec.specs.Wrappers.{same_span}
use Rattle.deny_diags_parts.specs.BySpan.{first_of}
use Rattle.deny_diags.specs.declared.entry_numbers.EntryList.TheVariants.{Allow}
use Rattle.deny_diags.specs.private.EntryNumbers.{AreNumbered}
use Rattle.deny_diags.proofs.ReportedLemmas.{seen_at, there_below}
use Rattle.deny_diags.proofs.writer.DiagWriter.allow.Goals as goal

pub first-requires : goal.first-requires
first-requires c =
    let self = c.args.self.now in
    let span_of : PackageSpecOrExtended Reason → Span = λ e. e.spec.name.span in
    record {
      numbered = subst (λ (es : List (PackageSpecOrExtended Reason)). AreNumbered span_of Allow es self.numbers)
          (sym c.as_slice-allowed.ensures) self.entries_numbered.allow;
      there = subst (λ (es : List (PackageSpecOrExtended Reason)). IsTrue (is_some (first_of span_of c.args.span es)))
          (sym c.as_slice-allowed.ensures)
          (there_below (λ (e : AllowEntry). same_span e.spec.span c.args.span) allow_view self.ctx.cfg.now.allowed
          c.requires);
    }

pub returns : goal.returns
returns c =
    let self = c.args.self.now in
    let span_of : PackageSpecOrExtended Reason → Span = λ e. e.spec.name.span in
    seen_at (λ (e : AllowEntry). same_span e.spec.span c.args.span) allow_view self.ctx.cfg.now.allowed
    c.first.result.now (sym (ap (first_of span_of c.args.span) c.as_slice-allowed.ensures) ∙ c.first.ensures)
