use Rattle.std.proofs.Common.{◌∙◌, ap}
use Rattle.std.specs.Prelude.{find}
use Rattle.semver.specs.Identifiers.{parts_of}
use Rattle.deny_cfg_build.specs.declared.valid.ValidBypass.{ValidBypass}
use Rattle.deny_cfg_entries.specs.SpecView.{spec_view}
use Rattle.deny_spec.specs.Match.{spec_matches}
use Rattle.deny_build_bypass.proofs.ViewLemmas.{bypass_found, found_listed}
use Rattle.deny_build_bypass.proofs.bypass.used.Goals as goal

pub returns-clause-is : goal.returns-clause-is
returns-clause-is c =
    let krate = c.args.krate.now in
    λ place. bypass_found place krate c.args.config.now c.first_match.result
    (c.first_match.ensures
    ∙ ap (find (λ (y : ValidBypass). spec_matches (spec_view y.spec) krate.name (parts_of krate.version)))
    c.as_slice.ensures)

pub returns-clause-listed : goal.returns-clause-listed
returns-clause-listed c =
    let krate = c.args.krate.now in
    found_listed (λ (y : ValidBypass). spec_matches (spec_view y.spec) krate.name (parts_of krate.version))
    c.args.config.now.bypass c.first_match.result
    (c.first_match.ensures
    ∙ ap (find (λ (y : ValidBypass). spec_matches (spec_view y.spec) krate.name (parts_of krate.version)))
    c.as_slice.ensures)
