use Rattle.std.proofs.Common.{◌∙◌, ℕ, List, ap, map, subst, sym}
use Rattle.std.specs.FinMap as finite
use Rattle.std.specs.Option.{option_copied}
use Rattle.deny_build.specs.private.FileMatch.{IsFirstAt, matches_glob, matched_view}
use Rattle.deny_build.proofs.MatchLemmas.{found_at}
use Rattle.deny_build.proofs.hits.first_by_glob.Goals as goal

pub returns-in-Some : goal.returns-in-Some
returns-in-Some c =
    let glob = c.args.glob.now in
    let got = ap (λ (t : List ℕ). finite.get c.args.firsts.now t) (sym c.as_str.ensures)
    ∙ (sym c.get.ensures ∙ ap option_copied c.in-Some.is) in
    found_at (matches_glob glob) c.args.matched.now c.in-Some.number.now
    (option_copied c.nth_match.result) c.nth_match.ensures
    (subst (IsFirstAt (matches_glob glob) (map matched_view c.args.matched.now)) got c.requires)

pub returns-in-None : goal.returns-in-None
returns-in-None c =
    let glob = c.args.glob.now in
    let got = ap (λ (t : List ℕ). finite.get c.args.firsts.now t) (sym c.as_str.ensures)
    ∙ (sym c.get.ensures ∙ ap option_copied c.in-None.is) in
    sym (subst (IsFirstAt (matches_glob glob) (map matched_view c.args.matched.now)) got c.requires)
