use Rattle.std.proofs.Common.{List, [], subst}
use Rattle.std.specs.Prelude.{Contains}
use Rattle.deny_base_lists.specs.Ascending.{Adds}
use Rattle.deny_base.specs.KeyOrder.{key_cmp}
use Rattle.deny_base.specs.declared.key.Key.{Key}
use Rattle.deny_base_lists.proofs.Adding.{lists_added}
use Rattle.deny_diags_parts.specs.Context.{circumstances_by}
use Rattle.deny_rules.specs.private.OfPackages.{facts_by}
use Rattle.deny_rules_crates.specs.Rules.{ban_rules, keys_of_rules}
use Rattle.deny_rules.specs.private.OwnRules.{IsByRule}
use Rattle.deny_rules.proofs.OwnRuleLemmas.{adds_by_rule}
use Rattle.deny_rules.proofs.check.keys_of.Goals as goal

pub returns : goal.returns
returns c =
    let found = c.args.found.now in
    let scan = c.args.scan.now in
    let d = circumstances_by found.cfg.now found.krates.now c.args.spans.now scan.packages in
    let facts = facts_by found.marks scan.reached.items in
    let bans = Contains (keys_of_rules (ban_rules d.policy d.graph)) in
    lists_added key_cmp (IsByRule d facts) c.add_package_keys.new.keys c.put_in_order.new.list
    (adds_by_rule d facts [] c.add_ban_keys.new.keys c.add_skip_keys.new.keys c.add_duplicate_keys.new.keys
    c.add_feature_keys.new.keys c.add_manifest_keys.new.keys c.add_package_keys.new.keys
    (subst (λ (old : List Key). Adds bans old c.add_ban_keys.new.keys) c.new-keys.ensures c.in_ok-add_ban_keys.ensures)
    c.in_ok-add_skip_keys.ensures c.in_ok-add_duplicate_keys.ensures c.in_ok-add_feature_keys.ensures
    c.in_ok-add_manifest_keys.ensures c.in_ok-add_package_keys.ensures)
    c.in_ok-put_in_order.ensures.ok
