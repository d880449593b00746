-- The crates of a graph, one after another.
use Rattle.std.proofs.Common.{◌≡◌, ◌∙◌, ◌<◌, ◌∷◌, [], zero, suc, ℕ, List, Option, None, Some, ap, arith, length, sym}
use Rattle.std.proofs.Common.{take}
use Rattle.std.specs.Prelude.{◌≢◌, AllPairs, Contains, option_map, slice_get}
use Rattle.std.proofs.Math.Seq.{take-nil}
use Rattle.std.proofs.lemmas.List.{length-take}
use Rattle.std.proofs.lemmas.Option.{get_or_from_slice_get, none-some, same_Some, slice_get_within}
use Rattle.deny_krates.proofs.ResolutionLemmas.{crates-at}
use Rattle.deny_krates.proofs.CratesLemmas.{length-crates_from}
use Rattle.deny_krates.specs.Crates.{crate_view, crates_from}
use Rattle.deny_krates.specs.krate.Krate.{Krate}
use Rattle.deny_base_lists.proofs.Members.{there}
use Rattle.deny_spec.specs.Graph.{Crate, Graph}

record IsInFront {X : Type 0} (xs : List X) (n k : ℕ) (x : X) : Type 0 where
  below : k < n
  at : slice_get xs k ≡ Some x

in_front : {X : Type 0} (xs : List X) (n k : ℕ) (x : X) → slice_get (take n xs) k ≡ Some x → IsInFront xs n k x
in_front [] n k x at = absurd (none-some x (ap (λ ys. slice_get ys k) (sym (take-nil n)) ∙ at))
in_front (y ∷ ys) zero k x at = absurd (none-some x at)
in_front (y ∷ ys) (suc n) zero x at = record { below = omega arith; at = at }
in_front (y ∷ ys) (suc n) (suc k) x at =
    let rest = in_front ys n k x at in
    let below : k < n = rest.below in
    record { below = omega (arith, below); at = rest.at }

module _ (g : Graph) (ks : List Krate) (same : crates_from 0 ks ≡ g.crates) where
  viewed : (o : Option Krate) (k : ℕ) (d : Crate) → option_map (crate_view k) o ≡ Some d → d.place ≡ k
  viewed None k d is = absurd (none-some d is)
  viewed (Some krate) k d is = ap (λ (c : Crate). c.place) (sym (same_Some (crate_view k krate) d is))

  pub place_at : (k : ℕ) (d : Crate) → slice_get g.crates k ≡ Some d → d.place ≡ k
  place_at k d at = viewed (slice_get ks k) k d
      (sym (crates-at ks k) ∙ ap (λ cs. slice_get cs k) same ∙ at)

  pub all_long : length g.crates ≡ length ks
  all_long = ap length (sym same) ∙ length-crates_from 0 ks

  module _ (n : ℕ) (inside : n < length ks) where
    pub prefix_long : length (take n g.crates) ≡ n
    prefix_long =
        let long : length g.crates ≡ length ks = all_long in
        omega (arith, length-take n g.crates, inside, long)

    pub prefix_places : (d : Crate) → Contains (take n g.crates) d → d.place < length (take n g.crates)
    prefix_places d is =
        let at = there (take n g.crates) d is in
        let prefix = in_front g.crates n at.0 d at.1 in
        let place : d.place ≡ at.0 = place_at at.0 d prefix.at in
        let below : at.0 < n = prefix.below in
        let long : length (take n g.crates) ≡ n = prefix_long in
        omega (arith, place, below, long)

    pub prefix_apart : AllPairs (λ c d. c.id ≢ d.id) g.crates → (c : Crate) → slice_get g.crates n ≡ Some c
        → (d : Crate) → Contains (take n g.crates) d → d.id ≡ c.id → ⊥
    prefix_apart ids c at_c d is equal =
        let at = there (take n g.crates) d is in
        let prefix = in_front g.crates n at.0 d at.1 in
        ids at.0 n d prefix.below (slice_get_within g.crates n c at_c)
        (ap (λ (e : Crate). e.id) (get_or_from_slice_get g.crates at.0 d d prefix.at) ∙ equal
        ∙ sym (ap (λ (e : Crate). e.id) (get_or_from_slice_get g.crates n c d at_c)))
