use Rattle.std.proofs.Common.{◌∙◌, None, ap, sym}
use Rattle.std.specs.Prelude.{cond, position}
use Rattle.semver.specs.Identifiers.{parts_of}
use Rattle.deny_cfg_build.specs.BuildingView.{building_view}
use Rattle.deny_cfg_build.specs.declared.valid.ValidBypass.{ValidBypass}
use Rattle.deny_cfg_entries.specs.SpecView.{spec_view}
use Rattle.deny_krates.specs.Crates.{crate_view}
use Rattle.deny_spec.specs.Match.{spec_matches}
use Rattle.deny_spec_report.specs.BuildScripts.{bypasses}
use Rattle.deny_build.proofs.NumberLemmas.{number_viewed}
use Rattle.deny_build.proofs.krate_check.number_used.Goals as goal

pub returns : goal.returns
returns c =
    let config = c.args.by.now.config.now in
    let krate = c.args.krate.now in
    c.first_match.ensures
    ∙ (ap (position (λ (y : ValidBypass). spec_matches (spec_view y.spec) krate.name (parts_of krate.version)))
    c.as_slice.ensures
    ∙ (number_viewed config c.args.place krate
    ∙ ap (λ b. cond b (position (λ y. bypasses y (crate_view c.args.place krate)) (building_view config).bypass) None)
    (sym (sym c.is_checked.ensures ∙ c.if-not-is_checked.false))))
