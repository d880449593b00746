-- A mark for each crate, at its place, is a test of crates.
use Rattle.std.proofs.Common.{◌≡◌, ◌+◌, ◌++◌, ◌<◌, ℕ, Bool, false, List, [], ◌∷◌, Contains, Some, filter, get_or}
use Rattle.std.proofs.Common.{length, map, slice_get, take, refl, sym, ap, ◌∙◌, subst, arith}
use Rattle.std.specs.Prelude.{◌==◌, ◌||◌, All, option_map, replicate}
use Rattle.std.specs.List.{list_any}
use Rattle.std.proofs.Math.Bool.{or-false}
use Rattle.std.proofs.lemmas.Bool.{eq-eqb, eqb-true}
use Rattle.std.proofs.lemmas.List.{ext_get_or, length-map, map_more}
use Rattle.std.proofs.lemmas.List.Elements.{All-map, All-contains_itself, All-weaker}
use Rattle.std.proofs.lemmas.List.Folds.{list_any-append, list_any_more}
use Rattle.std.proofs.lemmas.Option.{get_or_from_slice_get, slice_get-map}
use Rattle.deny_base_lists.proofs.Members.{Contains-filter, Contains-from_filter, Contains-from_map, any_from}
use Rattle.deny_base_lists.proofs.Members.{any_passes, contains_map, from_there}
use Rattle.deny_spec.specs.Graph.{Crate}
use Rattle.deny_base_lists.proofs.Agreement.{AgreeOn, map_on}
use Rattle.deny_rules_match.specs.Marks.{AddsMarks, HaveBesides, mark_at, marked}
use Rattle.deny_rules_match.specs.Placed.{ArePlaced}
use Rattle.deny_base_lists.proofs.Booleans.{tests_agree}
use Rattle.deny_krates.proofs.PlaceLemmas.{one_place, place_of, place_within, holds_at}

-- the marks of a test of crates

pub no_marks-are : (crates : List Crate) → replicate (length crates) false ≡ map (λ c. false) crates
no_marks-are [] = refl
no_marks-are (c ∷ crates) = ap (λ marks. false ∷ marks) (no_marks-are crates)

mark-there : (t : Crate → Bool) (crates : List Crate) (n : ℕ) (c : Crate) → slice_get crates n ≡ Some c
    → mark_at (map t crates) n ≡ t c
mark-there t crates n c is = get_or_from_slice_get (map t crates) n (t c) false (slice_get-map t crates n
    ∙ ap (option_map t) is)

module _ (crates : List Crate) (placed : ArePlaced crates) where
  pub marked-is : (t : Crate → Bool) (marks : List Bool) → marks ≡ map t crates → AgreeOn crates (marked marks) t
  marked-is t marks are = λ c holds. ap (λ ms. marked ms c) are ∙ mark-there t crates c.place c (placed.at c holds)

  marks_are : (t : Crate → Bool) (marks : List Bool) → length marks ≡ length crates → AgreeOn crates (marked marks) t
      → marks ≡ map t crates
  marks_are t marks long each = ext_get_or false marks (map t crates) (long ∙ sym (length-map crates t)) (λ n below.
      let at = holds_at crates placed n (omega (arith, below, long)) in
      ap (mark_at marks) (sym at.2) ∙ (each at.0 (from_there crates n at.0 at.1)
      ∙ sym (mark-there t crates n at.0 at.1)))

  -- marks of a test that gain those of another are the marks of both
  pub adds_marks : (test : ℕ → Bool) (other : Crate → Bool) (old new : List Bool) → HaveBesides test old new
      → AgreeOn crates (λ c. test c.place) other → AddsMarks crates other old new
  adds_marks test other old new so same = record {
    is = λ t are.
        let long : length old ≡ length crates = ap length are ∙ length-map crates t in
        marks_are (λ c. t c || other c) new (so.long ∙ long) (λ c holds.
        so.each c.place (omega (arith, place_within crates placed c holds, long))
        ∙ (ap (λ b. b || test c.place) (marked-is t old are c holds) ∙ ap (λ b. t c || b) (same c holds)));
  }

  -- the places of the crates that pass a test hold just those crates
  any_place : (t : Crate → Bool) (places : List ℕ) → places ≡ map place_of (filter t crates)
      → AgreeOn crates (λ c. list_any (λ place. place == c.place) places) t
  any_place t places are = λ c holds. tests_agree _ (t c)
      (λ any.
      let hit = any_passes (λ place. place == c.place) places any in
      let from = Contains-from_map place_of (filter t crates) hit.one
      (subst (λ (ps : List ℕ). Contains ps hit.one) are hit.member) in
      let kept = Contains-from_filter t crates from.from from.member in
      let same : from.from ≡ c = one_place crates placed from.from c kept.0 holds (from.is
      ∙ eqb-true hit.one c.place hit.passes) in
      sym (ap t same) ∙ kept.1)
      (λ passes.
      let here = contains_map place_of (filter t crates) c (Contains-filter t crates c holds passes) in
      any_from (λ place. place == c.place) places c.place (subst (λ (ps : List ℕ). Contains ps c.place) (sym are) here)
      (eq-eqb c.place c.place refl))

  pub adds_matched : (t : Crate → Bool) (places : List ℕ) (old new : List Bool)
      → places ≡ map place_of (filter t crates) → HaveBesides (λ n. list_any (λ place. place == n) places) old new
      → AddsMarks crates t old new
  adds_matched t places old new are so =
      adds_marks (λ n. list_any (λ place. place == n) places) t old new so (any_place t places are)

  -- the places of crates are below the number of crates
  pub places_within : (t : Crate → Bool) (places : List ℕ) (size : ℕ) → places ≡ map place_of (filter t crates)
      → size ≡ length crates → All (λ place. place < size) places
  places_within t places size are long =
      subst (λ (ps : List ℕ). All (λ place. place < size) ps) (sym are)
      (All-map (λ place. place < size) place_of (filter t crates)
      (All-weaker (Contains (filter t crates)) (λ c. c.place < size)
      (λ c holds. subst (λ (n : ℕ). c.place < n) (sym long)
      (place_within crates placed c (Contains-from_filter t crates c holds).0)) (filter t crates)
      (All-contains_itself (filter t crates))))

-- a loop that marks what each entry of a list matches

pub more_marks : (crates : List Crate) (t next other : Crate → Bool) (old new : List Bool) → old ≡ map t crates
    → AddsMarks crates other old new → ((c : Crate) → next c ≡ (t c || other c)) → new ≡ map next crates
more_marks crates t next other old new are adds same =
    adds.is t are ∙ map_on (λ c. t c || other c) next crates (λ c _. sym (same c))

pub any_next : {X : Type 0} (p : X → Bool) (xs : List X) (i : ℕ) (x : X) → i < length xs → x ≡ get_or xs i x
    → list_any p (take (i + 1) xs) ≡ (list_any p (take i xs) || p x)
any_next p xs i x inside is = list_any_more p xs i x inside ∙ ap (λ y. list_any p (take i xs) || p y) (sym is)

pub any_next_view : {X S : Type 0} (view : X → S) (p : S → Bool) (xs : List X) (i : ℕ) (x : X) → i < length xs
    → x ≡ get_or xs i x
    → list_any p (map view (take (i + 1) xs)) ≡ (list_any p (map view (take i xs)) || p (view x))
any_next_view view p xs i x inside is =
    ap (list_any p) (map_more view xs i x inside ∙ ap (λ y. map view (take i xs) ++ view y ∷ []) (sym is))
    ∙ (list_any-append p (map view (take i xs)) (view x ∷ [])
    ∙ ap (λ b. list_any p (map view (take i xs)) || b) (or-false (p (view x))))
