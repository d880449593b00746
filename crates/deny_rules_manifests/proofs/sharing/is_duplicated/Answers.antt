use Rattle.std.proofs.Common.{Bool, map, ap, sym, ◌∙◌}
use Rattle.std.specs.Prelude.{◌&&◌}
use Rattle.std.specs.List.{list_any}
use Rattle.deny_spec_report.specs.Sharing.{is_duplicated, is_unshared}
use Rattle.deny_rules_manifests.specs.Uses.{use_view}
use Rattle.deny_rules_manifests.proofs.SharingLemmas.{any_viewed, two_viewed}
use Rattle.deny_rules_manifests.proofs.sharing.is_duplicated.Goals as goal

pub returns-then-uses-ge2 : goal.returns-then-uses-ge2
unfolding is_duplicated
returns-then-uses-ge2 c =
    let uses = c.args.uses.now in
    c.any_unshared.ensures ∙ (any_viewed uses
    ∙ ap (λ (b : Bool). b && list_any is_unshared (map use_view uses)) (sym (two_viewed uses c.if-uses-ge2.true)))
