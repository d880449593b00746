use Rattle.deny_base_lists.proofs.Filters.{filter_map-map}
use Rattle.std.proofs.Common.{◌++◌, arith, ap, sym, ◌∙◌}
use Rattle.deny_cfg.specs.Clashes.{clash_with, specs_of}
use Rattle.deny_cfg.specs.declared.clash.ClashKind.TheVariants as clash
use Rattle.deny_cfg_entries.specs.declared.reason.Reason.{Reason}
use Rattle.deny_cfg_entries.specs.declared.spec_or_extended.PackageSpecOrExtended.{PackageSpecOrExtended}
use Rattle.deny_cfg.proofs.ClashLaws.{gathers_all, gathers_next}
use Rattle.deny_cfg.proofs.FirstSpansLaws.{clash_found}
use Rattle.deny_cfg.proofs.clashes.put_allow_clashes.Goals as goal

pub loop-entry-preserved : goal.loop-entry-preserved
loop-entry-preserved c =
    let entry = c.entry-item.result in
    let skip = c.args.skip.now in
    let found = clash_found clash.AllowAndSkip entry.spec skip c.in_ok-skip.skip c.in_ok-skip.ensures in
    gathers_next (λ (e : PackageSpecOrExtended Reason). clash_with clash.AllowAndSkip (specs_of skip) e.spec)
    c.args.allow.now c.loop-entry.entry-index entry
    c.loop-entry.clashes c.put_clash.new.clashes _ c.in_ok-clash_with.field-0 (omega (arith, c.loop-entry-test.true))
    c.entry-item.is c.loop-entry.invariant
    (c.in_ok-clash_with.ensures ∙ found) c.in_ok-put_clash.ensures

pub returns : goal.returns
returns c =
    let skip = c.args.skip.now in
    gathers_all (λ (e : PackageSpecOrExtended Reason). clash_with clash.AllowAndSkip (specs_of skip) e.spec)
    c.args.allow.now c.loop-entry.entry-index
    c.loop-entry.clashes _ (omega (arith, c.loop-entry-test.false)) c.loop-entry.invariant
    ∙ ap (λ xs. c.args.clashes.now ++ xs)
    (sym (filter_map-map (clash_with clash.AllowAndSkip (specs_of skip))
    (λ (e : PackageSpecOrExtended Reason). e.spec) c.args.allow.now))
