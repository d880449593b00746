use Rattle.std.proofs.Common.{◌∙◌, ap, sym}
use Rattle.std.specs.Prelude.{option_map}
use Rattle.semver.proofs.EvalViews.{matches_all-views}
use Rattle.semver.specs.Identifiers.{parts_of}
use Rattle.deny_spans_manifest.specs.Found.{requirement_read}
use Rattle.deny_spec.specs.Match.{meets}
use Rattle.deny_spans_workspace.proofs.agreement.meets.Goals as goal

pub returns-in-Some : goal.returns-in-Some
returns-in-Some c =
    c.matches.ensures
    ∙ (matches_all-views c.in-Some.requirement.now.comparators.items c.args.krate.now.version
    ∙ ap (λ r. meets (option_map (λ r. requirement_read r.now) r) (parts_of c.args.krate.now.version))
    (sym c.in-Some.is))
