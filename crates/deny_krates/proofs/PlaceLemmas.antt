-- Crates are at their places.
use Rattle.std.proofs.Common.{◌≡◌, ◌+◌, ◌<◌, ℕ, List, [], ◌∷◌, Contains, Option, Some, None, get_or, length, map}
use Rattle.std.proofs.Common.{option_map, slice_get, refl, sym, ap, ◌∙◌, subst, arith, ◌++◌}
use Rattle.std.specs.List.{range_with_len, flat_map}
use Rattle.std.proofs.lemmas.Option.{none-some, same_Some, slice_get-get_or, slice_get_within}
use Rattle.deny_krates_graph.specs.Crates.{crate_view, crates_from}
use Rattle.deny_krates_graph.specs.declared.krate.Krate.{Krate}
use Rattle.deny_base_lists.proofs.Members.{some_at, there, Contains-first, Contains-rest}
use Rattle.deny_krates.proofs.ResolutionLemmas.{crates_from-at}
use Rattle.deny_krates_graph.proofs.CratesLemmas.{length-crates_from}
use Rattle.deny_spec.specs.Graph.{Crate, Graph}
use Rattle.deny_krates.specs.Placed.{ArePlaced}

abbrev pub place_of : Crate → ℕ
place_of c = c.place

place_from : (at : ℕ) (k : Option Krate) (c : Crate) → option_map (crate_view at) k ≡ Some c → c.place ≡ at
place_from at None c is = absurd (none-some c is)
place_from at (Some k) c is = sym (ap place_of (same_Some (crate_view at k) c is))

place_in : (ks : List Krate) (n : ℕ) (c : Crate) → slice_get (crates_from 0 ks) n ≡ Some c → c.place ≡ n
place_in ks n c is =
    let here : 0 + n ≡ n = omega arith in
    place_from (0 + n) (slice_get ks n) c (sym (crates_from-at 0 ks n) ∙ is) ∙ here

places_from : (at : ℕ) (ks : List Krate) → map place_of (crates_from at ks) ≡ range_with_len at
    (length (crates_from at ks))
places_from at [] = refl
places_from at (k ∷ ks) = ap (λ places. at ∷ places) (places_from (at + 1) ks)

placed_from : (ks : List Krate) → ArePlaced (crates_from 0 ks)
placed_from ks = record {
  at = λ c is.
      let holds = there (crates_from 0 ks) c is in
      ap (slice_get (crates_from 0 ks)) (place_in ks holds.0 c holds.1) ∙ holds.1;
  place = place_in ks;
  places = places_from 0 ks;
}

-- the crates of a graph are at their places
pub are_placed : (ks : List Krate) (crates : List Crate) → crates_from 0 ks ≡ crates → ArePlaced crates
are_placed ks crates e = subst ArePlaced e (placed_from ks)

pub length_of : (ks : List Krate) (crates : List Crate) → crates_from 0 ks ≡ crates → length crates ≡ length ks
length_of ks crates e = ap length (sym e) ∙ length-crates_from 0 ks

-- the crate at a place, by the crates as the graph keeps them
pub at_place : (ks : List Krate) (crates : List Crate) (n : ℕ) → crates_from 0 ks ≡ crates
    → slice_get crates n ≡ option_map (crate_view n) (slice_get ks n)
at_place ks crates n e =
    let here : 0 + n ≡ n = omega arith in
    ap (λ cs. slice_get cs n) (sym e) ∙ (crates_from-at 0 ks n ∙ ap (λ p. option_map (crate_view p)
    (slice_get ks n)) here)

pub krate_there : (ks : List Krate) (crates : List Crate) (n : ℕ) (d : Krate) → crates_from 0 ks ≡ crates
    → n < length ks → slice_get crates n ≡ Some (crate_view n (get_or ks n d))
krate_there ks crates n d e inside = at_place ks crates n e ∙ ap (option_map
    (crate_view n)) (slice_get-get_or ks n d inside)

-- consequences of crates being at their places

module _ (crates : List Crate) (placed : ArePlaced crates) where
  pub one_place : (c d : Crate) → Contains crates c → Contains crates d → c.place ≡ d.place → c ≡ d
  one_place c d c_holds d_holds same = same_Some c d (sym (placed.at c c_holds)
      ∙ (ap (slice_get crates) same ∙ placed.at d d_holds))

  pub place_within : (c : Crate) → Contains crates c → c.place < length crates
  place_within c holds = slice_get_within crates c.place c (placed.at c holds)

  -- there is a crate at each place below their number
  pub holds_at : (n : ℕ) → n < length crates → (c : Crate) × (slice_get crates n ≡ Some c) × (c.place ≡ n)
  holds_at n inside = let found = some_at crates n inside in (found.0, found.1, placed.place n found.0 found.1)

pub krate_at : (g : Graph) (ks : List Krate) (place : ℕ) (k : Krate) → crates_from 0 ks ≡ g.crates
    → place < length ks → k ≡ get_or ks place k → slice_get g.crates place ≡ Some (crate_view place k)
krate_at g ks place k same inside is =
    let zero_on : 0 + place ≡ place = omega arith in
    ap (λ cs. slice_get cs place) (sym same)
    ∙ crates_from-at 0 ks place
    ∙ ap (λ n. option_map (crate_view n) (slice_get ks place)) zero_on
    ∙ ap (option_map (crate_view place)) (slice_get-get_or ks place k inside ∙ ap (λ j. Some j) (sym is))

-- mapping places is mapping their crates
pub flat_map-place_of : {Y : Type 0} (f : ℕ → List Y) (h : Crate → List Y) (cs : List Crate)
    → ((c : Crate) → Contains cs c → f c.place ≡ h c) → flat_map f (map place_of cs) ≡ flat_map h cs
flat_map-place_of f h [] same = refl
flat_map-place_of f h (c ∷ cs) same =
    ap (λ ys. ys ++ flat_map f (map place_of cs)) (same c (Contains-first c cs))
    ∙ ap (λ ys. h c ++ ys) (flat_map-place_of f h cs (λ d is. same d (Contains-rest c cs d is)))
