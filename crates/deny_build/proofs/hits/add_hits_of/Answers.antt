use Rattle.std.proofs.Common.{◌∙◌, ◌++◌, List, ap, map}
use Rattle.std.specs.List.{flat_map}
use Rattle.std.proofs.lemmas.Result.{on_ok_weaker}
use Rattle.deny_base.specs.declared.entry.Hit.{Hit}
use Rattle.deny_cfg_build.specs.BuildingView.{bypass_view, path_view, words_of}
use Rattle.deny_spec_report.specs.Packages.{bypass_hit, if_hit}
use Rattle.deny_spec.specs.Policy.{SpannedText}
use Rattle.deny_cfg_tables.specs.declared.bans.cfg.bypass.BypassPath.{BypassPath}
use Rattle.deny_build.specs.ScanningOf.{scanning_of}
use Rattle.deny_build.specs.declared.matched.FileMatch.{FileMatch}
use Rattle.deny_build.specs.private.Hits.{glob_hit_in, path_hit_in}
use Rattle.deny_build.specs.private.FileMatch.{MatchedFile, matched_view}
use Rattle.deny_build.proofs.HitLemmas.{hits_are}
use Rattle.deny_build.proofs.KeyLemmas.{joined}
use Rattle.deny_build.proofs.hits.add_hits_of.Goals as goal

pub returns : goal.returns
returns c =
    let l = scanning_of c.args.ctx.now in
    let y = bypass_view c.args.bypass.now in
    let old = c.args.hits.now in
    let matched : List MatchedFile = map matched_view c.in_ok-matched.matched.items in
    let paths : List MatchedFile → List BypassPath → List Hit =
    λ ms ps. flat_map (λ a. if_hit (path_hit_in ms a)) (map path_view ps) in
    let globs : List MatchedFile → List SpannedText → List Hit =
    λ ms ws. flat_map (λ w. if_hit (glob_hit_in ms w)) ws in
    on_ok_weaker c.add_glob_hits.result
    (λ added. joined (if_hit (bypass_hit l y)) (paths matched c.args.bypass.now.allow)
    (globs matched y.globs) old c.add_glob_hits.new.hits
    c.add_bypass_hit.new.hits c.add_path_hits.new.hits c.in_ok-add_bypass_hit.ensures
    (c.in_ok-add_path_hits.ensures
    ∙ (ap (λ (ms : List FileMatch). c.add_bypass_hit.new.hits ++ paths (map matched_view ms) c.as_slice.result.now)
    c.as_slice-2.ensures.value
    ∙ ap (λ (ps : List BypassPath). c.add_bypass_hit.new.hits ++ paths matched ps) c.as_slice.ensures))
    (added
    ∙ (ap (λ (ms : List FileMatch). c.add_path_hits.new.hits ++ globs (map matched_view ms)
    (map words_of c.globs_of.result.now))
    c.as_slice-3.ensures.value
    ∙ ap (λ (ws : List SpannedText). c.add_path_hits.new.hits ++ globs matched ws) c.globs_of.ensures))
    ∙ ap (λ (hits : List Hit). old ++ hits) (hits_are l y matched c.in_ok-matched.ensures))
    c.add_glob_hits.ensures
