use Rattle.std.proofs.Common.{◌+◌, ℕ, Bool, drop, filter, get_or, sym, ◌∙◌}
use Rattle.std.proofs.lemmas.List.{drop_more}
use Rattle.deny_cfg.specs.PolicyView.{policy_view}
use Rattle.deny_rules_features.specs.private.FeatureMatches.{entry_of}
use Rattle.deny_rules_features.specs.private.Listed.{is_mismatched_at}
use Rattle.deny_rules_features.proofs.KeptLemmas.{kept_none, kept_one}
use Rattle.deny_rules_features.proofs.mismatched.mismatched.Goals as goal
use Rattle.deny_rules_features.proofs.mismatched.mismatched.Goals.{then-branch+in_ok-push, else-branch}

pub loop-place-preserved : goal.loop-place-preserved
loop-place-preserved c =
    let test : ℕ → Bool = is_mismatched_at (policy_view c.args.cfg.now) c.args.krates.now (entry_of c.args.found.now) in
    let places = c.as_slice-places.result.now in
    let i = c.loop-place.place-index in
    let place = get_or places i 0 in
    let old = c.loop-place.others in
    let new = c.if-branch.others in
    elim c.if-branch.branch [
      | then-branch+in_ok-push w ↦ kept_one test old new place (drop i places) (drop (i + 1) places)
          (filter test places) (w.others-is ∙ w.in_ok-push.ensures.ok) (drop_more places i 0 c.loop-place-test.true)
          (sym c.in_ok-is_mismatched.ensures ∙ w.if-branch.true) c.loop-place.invariant
      | else-branch w ↦ kept_none test old new place (drop i places) (drop (i + 1) places) (filter test places)
          w.others-is (drop_more places i 0 c.loop-place-test.true)
          (sym c.in_ok-is_mismatched.ensures ∙ w.if-branch.false) c.loop-place.invariant
    ]
