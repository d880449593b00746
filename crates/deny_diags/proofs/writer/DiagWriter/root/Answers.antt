use Rattle.std.proofs.Common.{List, ap, subst, sym, ◌∙◌}
use Rattle.std.specs.Prelude.{IsTrue, is_some}
use Rattle.deny_base.specs.declared.span.Span.{Span}
use Rattle.deny_cfg.specs.PackageSpecOrExtended.{PackageSpecOrExtended}
use Rattle.deny_cfg.specs.TreeSkipExtended.{TreeSkipExtended}
use Rattle.deny_diags_parts.specs.BySpan.{first_of}
use Rattle.deny_diags.specs.declared.entry_numbers.EntryList.TheVariants.{SkipTree}
use Rattle.deny_diags.specs.private.EntryNumbers.{AreNumbered}
use Rattle.deny_diags.proofs.ReportedLemmas.{root_seen, root_there}
use Rattle.deny_diags.proofs.writer.DiagWriter.root.Goals as goal

pub first-requires : goal.first-requires
first-requires c =
    let self = c.args.self.now in
    let span_of : PackageSpecOrExtended TreeSkipExtended → Span = λ e. e.spec.name.span in
    record {
      numbered = subst (λ (es : List (PackageSpecOrExtended TreeSkipExtended)).
          AreNumbered span_of SkipTree es self.numbers) (sym c.as_slice-roots.ensures) self.entries_numbered.skip_tree;
      there = subst (λ (es : List (PackageSpecOrExtended TreeSkipExtended)).
          IsTrue (is_some (first_of span_of c.args.span es))) (sym c.as_slice-roots.ensures)
          (root_there c.args.span self.ctx.cfg.now.tree_skipped c.requires);
    }

pub returns : goal.returns
returns c =
    let span_of : PackageSpecOrExtended TreeSkipExtended → Span = λ e. e.spec.name.span in
    root_seen c.args.span c.args.self.now.ctx.cfg.now.tree_skipped c.first.result.now
    (sym (ap (first_of span_of c.args.span) c.as_slice-roots.ensures) ∙ c.first.ensures)
