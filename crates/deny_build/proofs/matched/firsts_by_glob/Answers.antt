use Rattle.std.proofs.Common.{◌∙◌, [], ℕ, ap, arith, refl, subst, sym}
use Rattle.std.specs.FinMap as finite
use Rattle.deny_base_lists.specs.TextMap.{TextFinMap}
use Rattle.deny_build.specs.private.FileMatch.{IsFirstAt, matches_glob}
use Rattle.deny_build.proofs.MatchLemmas.{firsts_more}
use Rattle.deny_build.proofs.SetLemmas.{nothing_at}
use Rattle.deny_build.proofs.matched.firsts_by_glob.Goals as goal

pub loop-number-init : goal.loop-number-init
loop-number-init c = λ text. subst (IsFirstAt (matches_glob text) [])
    (sym (ap (λ (m : TextFinMap ℕ). finite.get m text) c.new-firsts.ensures ∙ nothing_at text)) refl

pub loop-number-preserved : goal.loop-number-preserved
loop-number-preserved c =
    λ text. firsts_more c.args.all.now c.loop-number.number c.index-all-number.result (matches_glob text)
    (finite.get c.loop-number.firsts text) (finite.get c.note.new.firsts text) (omega arith) c.index-all-number.is
    (c.loop-number.invariant text) (c.in_ok-note.ensures text)
