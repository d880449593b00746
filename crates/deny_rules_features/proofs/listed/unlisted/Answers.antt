use Rattle.std.proofs.Common.{◌++◌, ◌+◌, ◌∷◌, ℕ, Bool, [], List, ap, arith, drop, filter, sym, ◌∙◌}
use Rattle.std.proofs.lemmas.List.{drop_more}
use Rattle.deny_cfg.specs.PolicyView.{feature_view, policy_view}
use Rattle.deny_rules_features.specs.private.Listed.{is_unlisted_by}
use Rattle.deny_rules_features.proofs.KeptLemmas.{kept_none, kept_one}
use Rattle.deny_rules_features.proofs.ListedLemmas.{kept_are}
use Rattle.deny_rules_features.proofs.listed.unlisted.Goals as goal
use Rattle.deny_rules_features.proofs.listed.unlisted.Goals.{then-is_unlisted+in_ok-clone+in_ok-push, else-is_unlisted}

pub loop-feature-preserved : goal.loop-feature-preserved
loop-feature-preserved c =
    let test : List ℕ → Bool = is_unlisted_by c.args.allowed.now c.has_default_apart-apart.result in
    let enabled = c.enabled_at-enabled.result.now in
    let i = c.loop-feature.feature-index in
    let feature = c.feature-item.result in
    let old = c.loop-feature.features in
    let new = c.if-is_unlisted.features in
    let split = drop_more enabled i feature c.loop-feature-test.true
    ∙ ap (λ (first : List ℕ). first ∷ drop (i + 1) enabled) (sym c.feature-item.is) in
    elim c.if-is_unlisted.branch [
      | then-is_unlisted+in_ok-clone+in_ok-push w ↦ kept_one test old new feature (drop i enabled)
          (drop (i + 1) enabled) (filter test enabled)
          (w.features-is ∙ (w.in_ok-push.ensures.ok
          ∙ ap (λ (copy : List ℕ). old ++ copy ∷ []) w.in_ok-clone.ensures.cases)) split
          (sym c.is_unlisted.ensures ∙ w.if-is_unlisted.true) c.loop-feature.invariant
      | else-is_unlisted w ↦ kept_none test old new feature (drop i enabled) (drop (i + 1) enabled)
          (filter test enabled) w.features-is split (sym c.is_unlisted.ensures ∙ w.if-is_unlisted.false)
          c.loop-feature.invariant
    ]

pub returns : goal.returns
returns c = kept_are (policy_view c.args.cfg.now) c.args.krates.now (feature_view c.args.entry.now) c.args.place
    c.args.allowed.now c.has_default_apart-apart.result c.enabled_at-enabled.result.now c.loop-feature.features
    c.loop-feature.feature-index c.requires c.has_default_apart-apart.ensures c.enabled_at-enabled.ensures.enabled
    (omega arith) c.loop-feature.invariant
