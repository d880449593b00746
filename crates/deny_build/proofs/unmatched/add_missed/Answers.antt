use Rattle.std.proofs.Common.{◌∙◌, ◌++◌, List, ap, append_assoc, map}
use Rattle.std.proofs.lemmas.Result.{on_ok_weaker}
use Rattle.deny_base.specs.declared.key.Key.{Key}
use Rattle.deny_cfg_build.specs.BuildingView.{bypass_view, path_view, words_of}
use Rattle.deny_spec.specs.Policy.{SpannedText}
use Rattle.deny_cfg_tables.specs.declared.bans.cfg.bypass.BypassPath.{BypassPath}
use Rattle.deny_build.specs.private.FileMatch.{matched_view}
use Rattle.deny_build.specs.private.Unmatched.{missed_glob_keys, missed_path_keys}
use Rattle.deny_build.proofs.unmatched.add_missed.Goals as goal

pub returns : goal.returns
returns c =
    let old = c.args.keys.now in
    let place = c.args.place in
    let all = map matched_view c.args.all.now in
    let y = bypass_view c.args.bypass.now in
    on_ok_weaker c.add_missed_globs.result
    (λ added. added
    ∙ (ap (λ (keys : List Key). keys ++ missed_glob_keys place all (map words_of c.globs_of.result.now))
    (c.in_ok-add_missed_paths.ensures
    ∙ ap (λ (paths : List BypassPath). old ++ missed_path_keys place all (map path_view paths)) c.as_slice.ensures)
    ∙ (append_assoc old (missed_path_keys place all y.allow)
    (missed_glob_keys place all (map words_of c.globs_of.result.now))
    ∙ ap (λ (globs : List SpannedText). old ++ (missed_path_keys place all y.allow ++ missed_glob_keys place all globs))
    c.globs_of.ensures)))
    c.add_missed_globs.ensures
