use Rattle.deny_krates_metadata.proofs.feature.push_feature.Goals as goal

pub returns : goal.returns
returns c = (c.in_ok-feature_of.field-0, c.in_ok-feature_of.ensures, c.in_ok-push.ensures.ok)
