use Rattle.std.proofs.Common.{◌∙◌, ◌++◌, ◌∷◌, [], None, Option, Some, ap, append-nil, option_map, sym}
use Rattle.std.specs.Option.{option_copied}
use Rattle.std.proofs.lemmas.Result.{on_ok_weaker}
use Rattle.deny_base.specs.declared.entry.EntryKind.TheVariants as kind
use Rattle.deny_base.specs.declared.entry.Hit.{Hit}
use Rattle.deny_base.specs.declared.entry.Witness.TheVariants.{Krate}
use Rattle.deny_cfg_build.specs.BuildingView.{bypass_view}
use Rattle.deny_spec_report.specs.BuildScripts.{bypass_span}
use Rattle.deny_spec_report.specs.Packages.{bypass_hit, if_hit}
use Rattle.deny_spec.specs.Graph.{Crate, kid_of}
use Rattle.deny_spec.specs.Hits.{hit_of}
use Rattle.deny_build.specs.ScanningOf.{scanning_of}
use Rattle.deny_build.proofs.ScanLemmas.{first_user_as}
use Rattle.deny_build.proofs.hits.add_bypass_hit.Goals as goal

pub returns-in_ok-krate_hit-in-Some : goal.returns-in_ok-krate_hit-in-Some
unfolding bypass_hit
returns-in_ok-krate_hit-in-Some c =
    let hit : Crate → Hit = λ k. hit_of kind.Bypass (bypass_span (bypass_view c.args.bypass.now)) (Krate (kid_of k)) in
    on_ok_weaker c.push.result
    (λ added. added
    ∙ (ap (λ (one : Hit). c.args.hits.now ++ one ∷ []) c.in_ok-krate_hit-in-Some.ensures
    ∙ ap (λ (o : Option Crate). c.args.hits.now ++ if_hit (option_map hit o))
    (first_user_as (scanning_of c.args._ctx.now) c.args.users.now c.requires (bypass_view c.args.bypass.now)
    (Some c.in-Some.at.now) (ap option_copied (sym c.in-Some.is) ∙ c.first_user.ensures))))
    c.push.ensures.ok

pub returns-in-None : goal.returns-in-None
unfolding bypass_hit
returns-in-None c =
    let hit : Crate → Hit = λ k. hit_of kind.Bypass (bypass_span (bypass_view c.args.bypass.now)) (Krate (kid_of k)) in
    sym (append-nil c.args.hits.now)
    ∙ ap (λ (o : Option Crate). c.args.hits.now ++ if_hit (option_map hit o))
    (first_user_as (scanning_of c.args._ctx.now) c.args.users.now c.requires (bypass_view c.args.bypass.now)
    None (ap option_copied (sym c.in-None.is) ∙ c.first_user.ensures))
