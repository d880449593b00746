use Rattle.std.proofs.Common.{[], Option, ap, ◌∙◌}
use Rattle.std.specs.Option.{option_map_or}
use Rattle.deny_cfg.specs.PolicyView.{building_of}
use Rattle.deny_spec_report.specs.Features.{feature_at}
use Rattle.deny_spec_report.specs.PackageDiags.{required_features}
use Rattle.deny_spec.specs.Policy.{SpannedText}
use Rattle.deny_spec.specs.Wrappers.{same_span}
use Rattle.deny_diags.specs.private.Features.{listed_features}
use Rattle.deny_diags.proofs.ReportedLemmas.{first_found, found_in_first}
use Rattle.deny_diags.proofs.features.feature_at.Goals as goal

pub named_feature-requires : goal.named_feature-requires
named_feature-requires c =
    let cfg = c.args.writer.now.ctx.cfg.now in
    found_in_first (λ (w : SpannedText). same_span w.span c.args.span) (listed_features cfg)
    (required_features (building_of cfg)) c.requires

pub returns : goal.returns
unfolding feature_at
returns c =
    let cfg = c.args.writer.now.ctx.cfg.now in
    c.as_str.ensures
    ∙ ap (λ (o : Option SpannedText). option_map_or (λ w. w.value) o [])
    (c.named_feature.ensures
    ∙ first_found (λ (w : SpannedText). same_span w.span c.args.span) (listed_features cfg)
    (required_features (building_of cfg)) c.requires)
