use Rattle.std.proofs.Common.{◌∙◌, ◌++◌, List, ap, map}
use Rattle.std.proofs.lemmas.Result.{on_ok_weaker}
use Rattle.deny_base.specs.declared.key.Key.{Key}
use Rattle.deny_cfg_build.specs.BuildingView.{words_of}
use Rattle.deny_build.specs.private.FileMatch.{matched_view}
use Rattle.deny_build.proofs.KeyLemmas.{missed_globs_by}
use Rattle.deny_build.proofs.unmatched.add_missed_globs.Goals as goal

pub returns : goal.returns
returns c = on_ok_weaker c.add_unmatched_globs.result
    (λ added. added ∙ ap (λ (keys : List Key). c.args.keys.now ++ keys)
    (missed_globs_by c.args.place (map matched_view c.args.all.now) c.in_ok-firsts.firsts
    (map words_of c.args.globs.now) c.in_ok-firsts.ensures))
    c.add_unmatched_globs.ensures
