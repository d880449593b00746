use Rattle.std.proofs.Common.{◌≡◌, Bor, List, ℕ, option_map, sym, ap, ◌∙◌, subst}
use Rattle.std.specs.Cmp.Lexicographic.{slice_cmp}
use Rattle.std.specs.List.Sorted.{IsStrictlySortedBy}
use Rattle.std.specs.Ordering.{nat_cmp}
use Rattle.deny_krates.specs.Crates.{crate_view}
use Rattle.deny_krates.specs.krate.Krate.{Krate}
use Rattle.deny_rules_features.specs.Crates.{enabled_at}
use Rattle.deny_rules_features.proofs.CrateLemmas.{ascending_at, enabled_there}
use Rattle.deny_rules_features.proofs.crates.enabled_at.Goals as goal

-- the enabled features at a place ascend, as those of the crate do
ascends : (xs ys : List (List ℕ)) → xs ≡ ys → IsStrictlySortedBy (slice_cmp nat_cmp) ys
    → IsStrictlySortedBy (slice_cmp nat_cmp) xs
ascends xs ys is up = subst (IsStrictlySortedBy (slice_cmp nat_cmp)) (sym is) up

pub returns-in-Some-clause-enabled : goal.returns-in-Some-clause-enabled
returns-in-Some-clause-enabled c =
    let g = c.args.krates.now in
    let krate = crate_view c.args.place c.in-Some.krate.now in
    let at = sym c.krate_at.ensures
    ∙ ap (option_map (λ (k : Bor Krate). crate_view c.args.place k.now)) c.in-Some.is in
    c.enabled_of_kid.ensures ∙ enabled_there g c.args.place krate c.krates-orderly.ensures.orderly at

pub returns-in-Some-clause-ascending : goal.returns-in-Some-clause-ascending
returns-in-Some-clause-ascending c =
    let g = c.args.krates.now in
    let krate = crate_view c.args.place c.in-Some.krate.now in
    let at = sym c.krate_at.ensures
    ∙ ap (option_map (λ (k : Bor Krate). crate_view c.args.place k.now)) c.in-Some.is in
    ascends c.enabled_of_kid.result.now (enabled_at g c.args.place)
    (c.enabled_of_kid.ensures ∙ enabled_there g c.args.place krate c.krates-orderly.ensures.orderly at)
    (ascending_at g c.args.place c.krates-orderly.ensures.orderly)

pub returns-in-None-clause-ascending : goal.returns-in-None-clause-ascending
unfolding IsStrictlySortedBy
returns-in-None-clause-ascending c = tt
