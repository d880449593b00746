use Rattle.std.proofs.Common.{◌∙◌, ap, map, subst, sym}
use Rattle.std.specs.Option.{option_copied}
use Rattle.deny_build.specs.private.FileMatch.{IsFirstAt, matches_path, matched_view}
use Rattle.deny_build.proofs.MatchLemmas.{found_at}
use Rattle.deny_build.proofs.hits.first_by_path.Goals as goal

pub returns-in-Some : goal.returns-in-Some
returns-in-Some c =
    let span = c.args.span in
    found_at (matches_path span) c.args.matched.now c.in-Some.number.now
    (option_copied c.nth_match.result) c.nth_match.ensures
    (subst (IsFirstAt (matches_path span) (map matched_view c.args.matched.now))
    (sym c.get.ensures.value ∙ ap option_copied c.in-Some.is) c.requires)

pub returns-in-None : goal.returns-in-None
returns-in-None c =
    let span = c.args.span in
    sym (subst (IsFirstAt (matches_path span) (map matched_view c.args.matched.now))
    (sym c.get.ensures.value ∙ ap option_copied c.in-None.is) c.requires)
