use Rattle.std.proofs.Common.{◌≡◌, ◌++◌, [], ◌∷◌, List, true, false, map, refl, sym, ap, ◌∙◌, arith, rules}
use Rattle.std.proofs.lemmas.List.{append-nil, map-append}
use Rattle.deny_krates.specs.Crates.{crate_view, crates_from}
use Rattle.deny_spec.specs.Graph.{Crate}
use Rattle.deny_rules_crates.specs.private.Duplicates.{is_unmarked, is_unmarked_at, placed_view}
use Rattle.deny_krates.proofs.PlaceLemmas.{are_placed, krate_there, length_of, holds_at}
use Rattle.deny_rules_match.proofs.RunLemmas.{one-kept, one-left_out}
use Rattle.deny_rules_crates.proofs.duplicates.keep.Goals as goal

pub returns-then-not-is_unmarked_at : goal.returns-then-not-is_unmarked_at
returns-then-not-is_unmarked_at c =
    let old : List Crate = map placed_view c.args.candidates.now.items in
    let all = c.args.all.now in
    let crates = crates_from 0 all in
    let marked : is_unmarked_at c.args.groups.now c.args.place ≡ false = search rules in
    let here = holds_at crates (are_placed all crates refl) c.args.place
    (omega (arith, c.requires, length_of all crates refl)) in
    sym (ap (λ (cs : List Crate). old ++ cs)
    (one-left_out (is_unmarked c.args.groups.now) crates c.args.place here.0 here.1
    (ap (is_unmarked_at c.args.groups.now) here.2 ∙ marked))
    ∙ append-nil old)

pub returns : goal.returns
returns c =
    let old : List Crate = map placed_view c.args.candidates.now.items in
    let all = c.args.all.now in
    let place = c.args.place in
    let unmarked : is_unmarked_at c.args.groups.now place ≡ true = search rules in
    ap (map placed_view) c.in_ok-push.ensures.items
    ∙ (map-append placed_view c.args.candidates.now.items _
    ∙ ap (λ (cs : List Crate). old ++ cs)
    (ap (λ k. crate_view place k ∷ []) c.index-all-place.is
    ∙ sym (one-kept (is_unmarked c.args.groups.now) (crates_from 0 all) place _
    (krate_there all (crates_from 0 all) place c.index-all-place.result refl c.requires) unmarked)))
