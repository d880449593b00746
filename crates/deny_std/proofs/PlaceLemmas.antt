-- Crates at their places: order, crates that pass a test, direct dependents.
use Rattle.std.proofs.Common.{◌≡◌, ◌++◌, ◌+◌, ◌<◌, ℕ, Bool, true, false, List, [], ◌∷◌, Contains, Option, Some, cond}
use Rattle.std.proofs.Common.{length, map, take, refl, sym, ap, ◌∙◌, subst}
use Rattle.std.specs.Prelude.{filter, slice_get}
use Rattle.std.specs.List.{AllByRecursion, list_any}
use Rattle.std.specs.List.Sorted.{IsStrictlySortedBy}
use Rattle.std.specs.Option.{option_map_or}
use Rattle.std.specs.Ordering.{nat_cmp, on}
use Rattle.std.specs.declared.cmp.Ordering.TheVariants.{Less}
use Rattle.std.proofs.lemmas.List.{map-append, take_more}
use Rattle.std.proofs.lemmas.List.Elements.{All-contains, filter-append}
use Rattle.std.proofs.lemmas.Option.{get_or_from_slice_get}
use Rattle.deny_base_lists.proofs.Booleans.{tests_agree}
use Rattle.deny_base_lists.proofs.Members.{Contains-from_map, any_from, any_passes, some_at}
use Rattle.deny_base_lists.proofs.Numbers.{range_with_len-ascends}
use Rattle.deny_krates.specs.Dependents.{AreDirectDependents}
use Rattle.deny_krates.specs.krate.DirectDependent.{DirectDependent}
use Rattle.deny_krates.specs.Placed.{ArePlaced}
use Rattle.deny_krates.proofs.NeighbourLemmas.{dependent_holds}
use Rattle.deny_spec.specs.Graph.{Crate, Graph, dependents}
use Rattle.deny_spec.specs.DiagParts.{crate_at}

each_on : {A : Type 0} (f : A → ℕ) (P : ℕ → Type 0) (xs : List A) → AllByRecursion P (map f xs)
    → AllByRecursion (λ x. P (f x)) xs
each_on f P [] each = tt
each_on f P (x ∷ xs) each = (each.0, each_on f P xs each.1)

ascends_on : {A : Type 0} (f : A → ℕ) (xs : List A) → IsStrictlySortedBy nat_cmp (map f xs)
    → IsStrictlySortedBy (on f nat_cmp) xs
unfolding IsStrictlySortedBy
ascends_on f [] ascending = tt
ascends_on f (x ∷ xs) ascending =
    (each_on f (λ n. nat_cmp (f x) n ≡ Less) xs ascending.0, ascends_on f xs ascending.1)

-- crates ascend by their places
pub places_ascend : (crates : List Crate) → ArePlaced crates → IsStrictlySortedBy (on (λ c. c.place) nat_cmp) crates
places_ascend crates placed = ascends_on (λ c. c.place) crates
    (subst (IsStrictlySortedBy nat_cmp) (sym placed.places) (range_with_len-ascends 0 (length crates)))

-- the places of crates that pass a test, with the next place added
pub places-more : (test : Crate → Bool) (crates : List Crate) (i : ℕ) (old new : List ℕ) → ArePlaced crates
    → i < length crates → old ≡ map (λ (c : Crate). c.place) (filter test (take i crates))
    → new ≡ old ++ cond (option_map_or test (slice_get crates i) false) (i ∷ []) []
    → new ≡ map (λ (c : Crate). c.place) (filter test (take (i + 1) crates))
places-more test crates i old new placed inside before added =
    added ∙ (ap (λ xs. xs ++ cond (option_map_or test (slice_get crates i) false) (i ∷ []) []) before
    ∙ (ap (λ (o : Option Crate). map place_of (filter test (take i crates))
    ++ cond (option_map_or test o false) (i ∷ []) []) found.1
    ∙ (ap (λ xs. map place_of (filter test (take i crates)) ++ xs) (last (test found.0))
    ∙ (sym (map-append place_of (filter test (take i crates)) (filter test (found.0 ∷ [])))
    ∙ (ap (map place_of) (sym (filter-append test (take i crates) (found.0 ∷ [])))
    ∙ ap (λ (xs : List Crate). map place_of (filter test xs)) (sym more))))))
  where
    place_of : Crate → ℕ
    place_of = λ c. c.place

    found : (c : Crate) × (slice_get crates i ≡ Some c)
    found = some_at crates i inside

    more : take (i + 1) crates ≡ take i crates ++ found.0 ∷ []
    more = take_more crates i found.0 inside
        ∙ ap (λ c. take i crates ++ c ∷ []) (get_or_from_slice_get crates i found.0 found.0 found.1)

    last : (b : Bool) → cond b (i ∷ []) [] ≡ map place_of (cond b (found.0 ∷ []) [])
    last true = ap (λ n. n ∷ []) (sym (placed.place i found.0 found.1))
    last false = refl

-- ---- direct dependents

-- a direct dependent passes a test exactly where one that the graph keeps passes it
pub any-dependent : (g : Graph) (place : ℕ) (ds : List DirectDependent) (test : Crate → Bool) → ArePlaced g.crates
    → AreDirectDependents g place ds
    → list_any (λ d. option_map_or test (crate_at g d.place) false) ds ≡ list_any test (dependents g place)
any-dependent g place ds test placed direct = tests_agree _ _
    (λ any.
    let hit = any_passes (λ (d : DirectDependent). option_map_or test (crate_at g d.place) false) ds any in
    let listed = All-contains (λ (d : DirectDependent). Contains
    (map (λ (c : Crate). c.place) (dependents g place)) d.place) ds hit.one direct.sound hit.member in
    let of = Contains-from_map (λ (c : Crate). c.place) (dependents g place) hit.one.place listed in
    let here : crate_at g hit.one.place ≡ Some of.from =
    ap (slice_get g.crates) (sym of.is) ∙ placed.at of.from (dependent_holds g place of.from of.member) in
    any_from test (dependents g place) of.from of.member
    (ap (λ (o : Option Crate). option_map_or test o false) (sym here) ∙ hit.passes))
    (λ any.
    let hit = any_passes test (dependents g place) any in
    let listed = All-contains (λ (c : Crate). Contains (map (λ (d : DirectDependent). d.place) ds) c.place)
    (dependents g place) hit.one direct.whole hit.member in
    let of = Contains-from_map (λ (d : DirectDependent). d.place) ds hit.one.place listed in
    let here : crate_at g of.from.place ≡ Some hit.one =
    ap (slice_get g.crates) of.is ∙ placed.at hit.one (dependent_holds g place hit.one hit.member) in
    any_from (λ (d : DirectDependent). option_map_or test (crate_at g d.place) false) ds of.from of.member
    (ap (λ (o : Option Crate). option_map_or test o false) here ∙ hit.passes))
