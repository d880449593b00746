use Rattle.std.proofs.Common.{option_map, sym, ap, ◌∙◌}
use Rattle.semver.proofs.EvalViews.{matches_all-views}
use Rattle.semver.specs.Identifiers.{parts_of}
use Rattle.deny_cfg.specs.Requirement.{held_in}
use Rattle.deny_spec.specs.Match.{meets}
use Rattle.deny_rules_match.proofs.matching.meets.Goals as goal

pub returns-in-Some : goal.returns-in-Some
returns-in-Some c =
    c.matches.ensures
    ∙ (matches_all-views c.in-Some.requirement.comparators.items c.args.version.now
    ∙ ap (λ r. meets (option_map held_in r) (parts_of c.args.version.now)) (sym c.in-Some.is))
