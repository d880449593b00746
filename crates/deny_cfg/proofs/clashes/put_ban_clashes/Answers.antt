use Rattle.std.proofs.Common.{◌++◌, None, arith, ap, sym, ◌∙◌}
use Rattle.std.specs.Prelude.{cond}
use Rattle.deny_cfg.specs.Clashes.{clash_with, is_ban, specs_of}
use Rattle.deny_cfg_tables.specs.declared.bans.cfg.ban.CrateBanExtended.{CrateBanExtended}
use Rattle.deny_cfg_entries.specs.declared.spec_or_extended.PackageSpecOrExtended.{PackageSpecOrExtended}
use Rattle.deny_cfg.proofs.ClashLaws.{gathers_all, gathers_next, given_where}
use Rattle.deny_cfg.proofs.FirstSpansLaws.{clash_found}
use Rattle.deny_cfg.proofs.clashes.put_ban_clashes.Goals as goal

pub loop-entry-preserved : goal.loop-entry-preserved
loop-entry-preserved g c =
    let entry = c.entry-item.result in
    let others = c.args.others.now in
    let found = clash_found c.args.kind entry.spec others c.in_ok-others.others c.in_ok-others.ensures in
    gathers_next
    (λ (e : PackageSpecOrExtended CrateBanExtended). cond (is_ban e)
    (clash_with c.args.kind (specs_of others) e.spec) None) c.args.deny.now c.loop-entry.entry-index entry
    c.loop-entry.clashes c.put_clash.new.clashes _ c.in_ok-ban_clash.field-0 (omega (arith, c.loop-entry-test.true))
    c.entry-item.is c.loop-entry.invariant
    (c.in_ok-ban_clash.ensures ∙ ap (λ o. cond (is_ban entry) o None) found) c.in_ok-put_clash.ensures

pub returns : goal.returns
returns g c =
    let others = c.args.others.now in
    gathers_all (λ (e : PackageSpecOrExtended CrateBanExtended). cond (is_ban e)
    (clash_with c.args.kind (specs_of others) e.spec) None) c.args.deny.now c.loop-entry.entry-index
    c.loop-entry.clashes _ (omega (arith, c.loop-entry-test.false)) c.loop-entry.invariant
    ∙ ap (λ xs. c.args.clashes.now ++ xs)
    (sym (given_where (clash_with c.args.kind (specs_of others))
    (λ (e : PackageSpecOrExtended CrateBanExtended). e.spec) is_ban c.args.deny.now))
