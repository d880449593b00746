use Rattle.std.proofs.Common.{List, Contains, map, refl, ap, ◌∙◌, subst}
use Rattle.std.specs.Prelude.{filter_map}
use Rattle.deny_base_lists.specs.Ascending.{AreFirst, Lists}
use Rattle.deny_base.specs.KeyOrder.{span_cmp}
use Rattle.deny_cfg.specs.PackageSpecOrExtended.{PackageSpecOrExtended}
use Rattle.deny_cfg.specs.PolicyView.{replacing_view}
use Rattle.deny_cfg.specs.Waiver.{Waiver}
use Rattle.deny_spec_report.specs.Saying.{said_in}
use Rattle.deny_std.specs.private.Hits.{hit_at, unmatched_in, unmatched_span}
use Rattle.deny_std.specs.private.Partition.{replaced_in}
use Rattle.deny_std.proofs.FoundLemmas.{all-kept}
use Rattle.deny_std.proofs.ctx.found_in.Goals as goal

pub returns : goal.returns
returns c =
    let g = c.args.krates.now in
    let entries = c.args.cfg.now.ignore in
    let r = replacing_view c.args.cfg.now in
    let said = said_in c.args.table in
    let witnesses = c.in_ok-partition.partition.witnesses in
    record {
      said_is = refl;
      kept = all-kept r g said entries (replaced_in r g said) c.in_ok-partition.partition.reported witnesses
          c.in_ok-hits.hits
          c.in_ok-unmatched.unmatched refl c.are_placed.ensures c.requires refl c.in_ok-partition.ensures.reported
          c.in_ok-partition.ensures.witnesses
          (c.in_ok-hits.ensures ∙ ap (λ (es : List (PackageSpecOrExtended Waiver)). filter_map (hit_at g witnesses) es)
          c.as_slice.ensures)
          (subst (λ (es : List (PackageSpecOrExtended Waiver)). Lists span_cmp
          (Contains (map unmatched_span (unmatched_in witnesses es))) (map unmatched_span c.in_ok-unmatched.unmatched))
          c.as_slice-2.ensures c.in_ok-unmatched.ensures.listed)
          (subst (λ (es : List (PackageSpecOrExtended Waiver)). AreFirst span_cmp unmatched_span
          (unmatched_in witnesses es) c.in_ok-unmatched.unmatched) c.as_slice-2.ensures
          c.in_ok-unmatched.ensures.first);
    }
