use Rattle.std.proofs.Common.{◌≡◌, ◌<◌, List, Option, ℕ, fold, get_or, length, rules, subst, sym, ◌∙◌, arith}
use Rattle.std.proofs.lemmas.List.{at_drop_all}
use Rattle.deny_base_lists.proofs.TakeBackLemmas.{unset_at, taken_back, those_inside}
use Rattle.deny_base_lists.proofs.walk.take_back.Goals as goal

pub index_mut-requires : goal.index_mut-requires
index_mut-requires c =
    let i = c.loop-place.place-index in
    let places = c.args.places.now in
    let inside : get_or places i 0 < length c.loop-place.distances-inside.vec.items =
    subst (λ (n : ℕ). get_or places i 0 < n) (sym c.loop-place.invariant.long)
    (those_inside c.args.distances.now places c.requires i 0 c.loop-place-test.true) in
    search rules

pub returns : goal.returns
returns c =
    let distances : List (Option ℕ) = c.loop-place.distances-inside.vec.items in
    let folded : distances ≡ fold unset_at c.args.distances.now c.args.places.now =
    sym (at_drop_all (fold unset_at distances) c.args.places.now c.loop-place.place-index (omega arith))
    ∙ c.loop-place.invariant.folds in
    folded ∙ taken_back c.args.distances.now c.args.places.now c.requires
