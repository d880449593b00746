use Rattle.std.proofs.Common.{ap, ◌∙◌}
use Rattle.deny_krates_metadata.specs.Document.{feature_at, features_from}
use Rattle.deny_krates_metadata.specs.private.Borrowed.{sorted_view, view}
use Rattle.deny_krates_metadata.proofs.FeaturesLemmas.{next_feature, no_more_features}
use Rattle.deny_krates_metadata.specs.declared.fault.MetadataFault.TheVariants.{Memory}
use Rattle.deny_base_lists.proofs.ReaderLemmas.{goes_on, fails_here, handed_on, all_read}
use Rattle.deny_krates_metadata.proofs.feature.sorted_features.Goals as goal

pub returns-in_err-push_feature : goal.returns-in_err-push_feature
returns-in_err-push_feature c =
    let path = c.args.path.now in
    let name = c.in-Some.name.now in
    let value = c.in-Some.value.now in
    let step = ap (λ es. features_from path (sorted_view es)) c.in-Some.ensures.steps ∙ next_feature path (name, value)
    c.next.new.self in
    let fault = c.in_err-push_feature.field-0.0 in
    handed_on Memory _ _ _ fault c.from_residual.ensures.1
    (fails_here Memory _ _ _ (feature_at path name.now (view value.now)) c.loop-name.features fault
    c.loop-name.invariant step c.in_err-push_feature.ensures)

pub loop-name-preserved : goal.loop-name-preserved
loop-name-preserved c =
    let path = c.args.path.now in
    let name = c.in-Some.name.now in
    let value = c.in-Some.value.now in
    let step = ap (λ es. features_from path (sorted_view es)) c.in-Some.ensures.steps ∙ next_feature path (name, value)
    c.next.new.self in
    let pushed = c.in_ok-push_feature.ensures in
    rw pushed.2 (goes_on _ _ _ (feature_at path name.now (view value.now)) c.loop-name.features
    pushed.0 c.loop-name.invariant step pushed.1)

pub returns : goal.returns
returns c = all_read _ _ c.loop-name.features c.loop-name.invariant
    (ap (λ es. features_from c.args.path.now (sorted_view es)) c.in-None.ensures.steps.0
    ∙ no_more_features c.args.path.now)
