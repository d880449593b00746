use Rattle.std.proofs.Common.{◌∙◌, ap, map}
use Rattle.semver.proofs.EvalViews.{matches_all-views}
use Rattle.semver.specs.EvalViews.{matches_views}
use Rattle.semver.specs.Identifiers.{comparator_view}
use Rattle.std.specs.Option.{option_map_or}
use Rattle.std.specs.Prelude.{false}
use Rattle.deny_spec.specs.Graph.{Crate}
use Rattle.deny_krates.proofs.resolution.wants.Goals as goal

pub returns-in-Some : goal.returns-in-Some
returns-in-Some c =
    c.matches.ensures
    ∙ (matches_all-views c.args.declaration.now.req.comparators.items c.in-Some.krate.now.version
    ∙ ap (λ o. option_map_or (λ (x : Crate). matches_views
    (map comparator_view c.args.declaration.now.req.comparators.items) x.version) o false) c.in-Some.ensures)
