use Rattle.std.proofs.Common.{◌+◌, List, map, take, sym, ap, subst, arith}
use Rattle.deny_cfg.specs.PolicyView.{feature_view}
use Rattle.deny_rules_match.proofs.MatchLemmas.{all_hold, more_hold}
use Rattle.deny_rules_features.specs.private.FeatureMatches.{AreFeatureMatches, IsFeatureMatch, entry_of}
use Rattle.deny_rules_features.proofs.feature_match.feature_matches.Goals as goal

pub loop-entry-preserved : goal.loop-entry-preserved
loop-entry-preserved c =
    let g = c.args.krates.now in
    let entries = c.as_slice-entries.result.now in
    let i = c.loop-entry.entry-index in
    subst (AreFeatureMatches g (map feature_view (take (i + 1) entries))) (sym c.in_ok-push.ensures.ok)
    (more_hold entry_of (IsFeatureMatch g) feature_view entries i c.entry-item.result c.loop-entry.found
    c.in_ok-feature_match.field-0 c.loop-entry-test.true c.entry-item.is c.loop-entry.invariant
    (ap feature_view c.in_ok-feature_match.ensures.of) c.in_ok-feature_match.ensures.is)

pub returns : goal.returns
returns c =
    let g = c.args.krates.now in
    subst (λ (es : List _). AreFeatureMatches g (map feature_view es) c.loop-entry.found) c.as_slice-entries.ensures
    (all_hold entry_of (IsFeatureMatch g) feature_view c.as_slice-entries.result.now c.loop-entry.entry-index
    c.loop-entry.found (omega arith) c.loop-entry.invariant)
