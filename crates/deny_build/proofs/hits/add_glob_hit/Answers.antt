use Rattle.std.proofs.Common.{◌∙◌, ◌++◌, ◌∷◌, [], Option, ap, append-nil, option_map, sym}
use Rattle.std.specs.Option.{option_copied}
use Rattle.std.proofs.lemmas.Result.{on_ok_weaker}
use Rattle.deny_base.specs.declared.entry.EntryKind.TheVariants.{BypassGlob}
use Rattle.deny_base.specs.declared.entry.Hit.{Hit}
use Rattle.deny_spec_report.specs.Packages.{if_hit}
use Rattle.deny_build.specs.private.Hits.{glob_hit_in, hit_by}
use Rattle.deny_build.specs.private.FileMatch.{MatchedFile, matched_view}
use Rattle.deny_build.proofs.hits.add_glob_hit.Goals as goal

pub returns-in_ok-hit_by-in-Some : goal.returns-in_ok-hit_by-in-Some
unfolding glob_hit_in
returns-in_ok-hit_by-in-Some c =
    let span = c.args.glob.now.span in
    let old = c.args.hits.now in
    on_ok_weaker c.push.result
    (λ added. added
    ∙ (ap (λ (hit : Hit). old ++ hit ∷ []) c.in_ok-hit_by-in-Some.ensures
    ∙ ap (λ (o : Option MatchedFile). old ++ if_hit (option_map (hit_by BypassGlob span) o))
    (ap (λ r. option_map matched_view (option_copied r)) (sym c.in-Some.is) ∙ c.first_by_glob.ensures)))
    c.push.ensures.ok

pub returns-in-None : goal.returns-in-None
unfolding glob_hit_in
returns-in-None c =
    let span = c.args.glob.now.span in
    let old = c.args.hits.now in
    sym (append-nil old)
    ∙ ap (λ (o : Option MatchedFile). old ++ if_hit (option_map (hit_by BypassGlob span) o))
    (ap (λ r. option_map matched_view (option_copied r)) (sym c.in-None.is) ∙ c.first_by_glob.ensures)
