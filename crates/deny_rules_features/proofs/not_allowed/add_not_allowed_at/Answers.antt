use Rattle.std.proofs.Common.{◌++◌, List, ℕ, filter, is_some, map, not, ap, ◌∙◌, arith}
use Rattle.std.specs.FinMap as finite
use Rattle.std.proofs.lemmas.Result.{on_ok_weaker}
use Rattle.deny_cfg.specs.PolicyView.{policy_view}
use Rattle.deny_spec_report.specs.Features.{not_allowed_feature_key}
use Rattle.deny_rules_features.specs.private.FeatureMatches.{entry_of}
use Rattle.deny_rules_features.specs.private.Reached.{AreReachedAt}
use Rattle.deny_rules_features.proofs.NotAllowedLemmas.{none_unlisted, unreached_are}
use Rattle.deny_rules_features.proofs.not_allowed.add_not_allowed_at.Goals as goal
use Rattle.std.proofs.Common.{subst, length}
use Rattle.deny_spec.specs.Policy.{SpannedText}

pub returns-then-len-eq0 : goal.returns-then-len-eq0
returns-then-len-eq0 c =
    none_unlisted (policy_view c.args.cfg.now) c.args.krates.now (entry_of c.args.found.now) c.args.place
    c.args.keys.now (omega (arith, ap length c.in_ok-others.ensures, c.len.ensures, c.if-len-eq0.true))

pub returns : goal.returns
returns c =
    let p = policy_view c.args.cfg.now in
    let g = c.args.krates.now in
    let e = entry_of c.args.found.now in
    let set = c.in_ok-reached.reached in
    let reached = subst (λ (listed : List SpannedText). AreReachedAt g c.args.place listed set)
    c.as_slice-listed.ensures
    c.in_ok-reached.ensures in
    on_ok_weaker c.add_unreached.result
    (λ added. unreached_are p g e c.args.place set c.args.keys.now c.add_unreached.new.keys reached
    (added ∙ ap (λ (features : List (List ℕ)). c.args.keys.now
    ++ map (not_allowed_feature_key c.args.place e.spec.span)
    (filter (λ feature. not (is_some (finite.get set feature))) features))
    (c.as_slice.ensures ∙ c.in_ok-others.ensures)))
    c.add_unreached.ensures
