use Rattle.std.proofs.Common.{◌∙◌, ap}
use Rattle.std.specs.List.{list_any}
use Rattle.semver.specs.Identifiers.{parts_of}
use Rattle.deny_cfg_entries.specs.SpecView.{spec_view}
use Rattle.deny_spec.specs.Match.{spec_matches}
use Rattle.deny_build_bypass.proofs.ViewLemmas.{all_may, any_matches}
use Rattle.deny_build_bypass.proofs.scripts.may_have_script.Goals as goal

pub returns-in-Some : goal.returns-in-Some
returns-in-Some c = λ place. c.is_any_match.ensures
    ∙ (ap (list_any (λ spec. spec_matches (spec_view spec) c.args.krate.now.name (parts_of c.args.krate.now.version)))
    c.as_slice.ensures
    ∙ any_matches place c.args.krate.now c.args.config.now c.in-Some.specs c.in-Some.is)

pub returns-in-None : goal.returns-in-None
returns-in-None c = λ place. all_may place c.args.krate.now c.args.config.now c.in-None.is
