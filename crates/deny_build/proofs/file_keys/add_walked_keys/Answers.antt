use Rattle.std.proofs.Common.{◌∙◌, ◌++◌, [], Bor, List, ap, map, option_map, refl}
use Rattle.std.specs.List.{flat_map}
use Rattle.std.specs.Option.{option_map_or}
use Rattle.std.proofs.lemmas.Result.{on_ok_weaker}
use Rattle.deny_base.specs.declared.key.Key.{Key}
use Rattle.deny_cfg_build.specs.BuildingView.{bypass_view}
use Rattle.deny_cfg_build.specs.declared.valid.ValidBypass.{ValidBypass}
use Rattle.deny_spec.specs.declared.package.Seen.{Seen}
use Rattle.deny_spec_report.specs.Packages.{folder_key}
use Rattle.deny_build.specs.declared.matched.FileMatch.{FileMatch}
use Rattle.deny_build.specs.private.Files.{matched_keys}
use Rattle.deny_build.specs.private.ScannedKrates.{krate_of, scanning_at}
use Rattle.deny_build.specs.private.FileMatch.{matched_view}
use Rattle.deny_build.specs.private.Unmatched.{missed_keys}
use Rattle.deny_build.proofs.KeyLemmas.{joined, walked_are}
use Rattle.deny_build.proofs.file_keys.add_walked_keys.Goals as goal

pub returns : goal.returns
returns c =
    let at = c.args.at.now in
    let place = at.place in
    let old = c.args.keys.now in
    let own = c.in_ok-own.own in
    let scripts = c.args.scripts.now in
    let all = c.in_ok-all.all.items in
    let unlisted = at.contents.now.unlisted in
    let first = option_map (λ (y : Bor ValidBypass). bypass_view y.now) at.bypass in
    on_ok_weaker c.add_unmatched_keys.result
    (λ added. joined (map (folder_key place) unlisted) (flat_map (matched_keys own scripts place)
    (map matched_view all))
    (option_map_or (missed_keys place (map matched_view all)) first []) old c.add_unmatched_keys.new.keys
    c.add_folder_keys.new.keys
    c.add_matched_keys.new.keys
    (c.in_ok-add_folder_keys.ensures ∙ ap (λ (us : List Seen). old ++ map (folder_key place) us) c.as_slice.ensures)
    (c.in_ok-add_matched_keys.ensures
    ∙ ap (λ (ms : List FileMatch). c.add_folder_keys.new.keys ++ flat_map (matched_keys own scripts place)
    (map matched_view ms))
    c.as_slice-2.ensures.value)
    (added ∙ ap (λ (ms : List FileMatch). c.add_matched_keys.new.keys
    ++ option_map_or (missed_keys place (map matched_view ms)) first [])
    c.as_slice-3.ensures.value)
    ∙ ap (λ (keys : List Key). old ++ keys)
    (walked_are (scanning_at at) (krate_of at) first own scripts at.krate.now.id at.contents.now unlisted
    (map matched_view all)
    at.uses c.in_ok-own.ensures c.requires at.seen refl c.in_ok-all.ensures))
    c.add_unmatched_keys.ensures
