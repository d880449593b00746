use Rattle.std.proofs.Common.{◌≡◌, ◌∙◌, [], Bor, List, None, Some, ap, map, sym}
use Rattle.std.specs.List.{flat_map}
use Rattle.std.specs.Option.{option_map_or}
use Rattle.std.proofs.lemmas.Result.{IfOk-weaker}
use Rattle.deny_cfg_build.specs.BuildingView.{bypass_view}
use Rattle.deny_build.specs.ScanningOf.{scanning_of}
use Rattle.deny_build.specs.declared.scanned_krate.ScannedKrate.{ScannedKrate}
use Rattle.deny_build.specs.private.ScannedKrates.{scanned_view}
use Rattle.deny_build.specs.private.FileMatch.{matched_view}
use Rattle.deny_build.specs.private.Users.{matched_of_users, matched_walked}
use Rattle.deny_build.proofs.ScanLemmas.{matched_users}
use Rattle.deny_build.proofs.hits.matched_of_users.Goals as goal

pub returns-in-Some : goal.returns-in-Some
returns-in-Some c =
    let l = scanning_of c.args._ctx.now in
    let y = bypass_view c.args.bypass.now in
    let group = c.in-Some.group.now.items in
    IfOk-weaker c.matched_of_group.result
    (λ matched. map matched_view matched.items
    ≡ flat_map (matched_walked y) (map (λ (u : Bor ScannedKrate). scanned_view u.now) c.as_slice.result.now))
    (λ matched. map matched_view matched.items ≡ matched_of_users l y)
    (λ matched is. is
    ∙ (ap (λ (own : List (Bor ScannedKrate)). flat_map (matched_walked y) (map
    (λ (u : Bor ScannedKrate). scanned_view u.now) own))
    c.as_slice.ensures.value
    ∙ matched_users l c.args.users.now c.requires y (Some group)
    (ap (λ o. option_map_or (λ g. map (λ (u : Bor ScannedKrate). u.now) g.now.items) o []) (sym c.in-Some.is)
    ∙ c.of.ensures)))
    c.matched_of_group.ensures

pub returns-in-None : goal.returns-in-None
returns-in-None c =
    ap (map matched_view) c.new.ensures.items
    ∙ matched_users (scanning_of c.args._ctx.now) c.args.users.now c.requires (bypass_view c.args.bypass.now) None
    (ap (λ o. option_map_or (λ g. map (λ (u : Bor ScannedKrate). u.now) g.now.items) o []) (sym c.in-None.is)
    ∙ c.of.ensures)
