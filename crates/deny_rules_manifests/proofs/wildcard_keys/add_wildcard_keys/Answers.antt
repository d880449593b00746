use Rattle.std.proofs.Common.{List, ◌++◌, sym, ap, ◌∙◌}
use Rattle.std.proofs.lemmas.Result.{on_ok_weaker}
use Rattle.deny_base.specs.declared.key.Key.{Key}
use Rattle.deny_cfg.specs.PolicyView.{policy_view}
use Rattle.deny_rules_match.specs.Marks.{facts_of}
use Rattle.deny_spans.specs.SpansView.{spans_view}
use Rattle.deny_rules_manifests.proofs.WildcardLemmas.{both_hold, found_are, none_hold}
use Rattle.deny_rules_manifests.proofs.wildcard_keys.add_wildcard_keys.Goals as goal

pub returns-then-not-is_active : goal.returns-then-not-is_active
returns-then-not-is_active c =
    let found = c.args.found.now in
    none_hold (policy_view found.cfg.now) found.krates.now (facts_of found.marks) (spans_view c.args.spans.now)
    c.args.keys.now (sym c.is_active.ensures ∙ c.if-not-is_active.true)

pub returns : goal.returns
returns c =
    let p = policy_view c.args.found.now.cfg.now in
    let g = c.args.found.now.krates.now in
    let facts = facts_of c.args.found.now.marks in
    let view = spans_view c.args.spans.now in
    let are = found_are p g facts view c.are_placed.ensures c.as_slice.result.now
    (c.as_slice.ensures ∙ c.in_ok-asked.ensures) in
    on_ok_weaker c.add_each.result
    (λ added. both_hold p g facts view c.args.keys.now c.add_each.new.keys
    (sym c.is_active.ensures ∙ c.if-not-is_active.false)
    (added ∙ ap (λ (keys : List Key). c.args.keys.now ++ keys) are)) c.add_each.ensures
