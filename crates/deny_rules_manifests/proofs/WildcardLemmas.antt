-- The keys of requirements that any version meets, by places and by crates.
use Rattle.std.proofs.Common.{◌≡◌, ℕ, suc, ◌++◌, ◌⊎◌, Bool, true, false, List, [], ◌∷◌, Some, None, cond, filter}
use Rattle.std.proofs.Common.{length, map, refl, sym, ap, ◌∙◌, subst, inl, inr, arith}
use Rattle.std.specs.Prelude.{◌==◌, ◌||◌, Contains, slice_get}
use Rattle.std.specs.List.{flat_map, list_any, range_with_len}
use Rattle.std.specs.Option.{option_map_or}
use Rattle.std.proofs.lemmas.Bool.{ne_eqb}
use Rattle.deny_base_lists.specs.Ascending.{Adds}
use Rattle.deny_base_lists.proofs.Adding.{adds_list, adds_same}
use Rattle.deny_base_lists.proofs.Members.{no_member}
use Rattle.deny_base.specs.declared.code.Code.TheVariants as code
use Rattle.deny_base.specs.declared.key.Key.{Key}
use Rattle.deny_spec_report.specs.Wildcards.{is_asked, is_active, is_unresolved, unresolved_key, unresolved_keys}
use Rattle.deny_spec_report.specs.Wildcards.{unresolved_keys_of, wildcard_keys, wildcard_keys_of, wildcards_in}
use Rattle.deny_spec_report.specs.Wildcards.{wildcards_of}
use Rattle.deny_rules_match.specs.Marks.{mark_at}
use Rattle.deny_rules_match.specs.Placed.{ArePlaced}
use Rattle.deny_rules_match.proofs.MarkLemmas.{marked-is}
use Rattle.deny_spec.specs.Facts.{Facts}
use Rattle.deny_spec.specs.Graph.{Crate, Graph}
use Rattle.deny_spec.specs.Keys.{crate_key, no_span}
use Rattle.deny_spec.specs.Policy.{Policy}
use Rattle.deny_spec.specs.DiagParts.{crate_at}
use Rattle.deny_spec.specs.View.{Declared, Manifest, View, manifest_of}
use Rattle.deny_rules_manifests.specs.private.Wildcards.{found_in, found_keys_at, found_keys_of, unresolved_key_at}
use Rattle.deny_rules_manifests.proofs.FlatLemmas.{apart, together}
use Rattle.deny_krates.proofs.PlaceLemmas.{flat_map-place_of}

-- ---- what a manifest writes

never : true ≡ false → ⊥
never is = (cc)

any_none : (q : Declared → Bool) (ds : List Declared) → list_any q ds ≡ false → filter q ds ≡ []
any_none q [] none = refl
any_none q (d ∷ ds) none = by_test (q d) none (any_none q ds)
  where
    by_test : (b : Bool) → (b || list_any q ds) ≡ false → (list_any q ds ≡ false → filter q ds ≡ [])
        → cond b (d ∷ filter q ds) (filter q ds) ≡ []
    by_test true is rest = absurd (never is)
    by_test false is rest = rest is

any_some : (q : Declared → Bool) (ds : List Declared) → list_any q ds ≡ true → (length (filter q ds) == 0) ≡ false
any_some q [] some = absurd (never (sym some))
any_some q (d ∷ ds) some = by_test (q d) some (any_some q ds)
  where
    by_test : (b : Bool) → (b || list_any q ds) ≡ true
        → (list_any q ds ≡ true → (length (filter q ds) == 0) ≡ false)
        → (length (cond b (d ∷ filter q ds) (filter q ds)) == 0) ≡ false
    by_test true is rest = ne_eqb (suc (length (filter q ds))) 0 (omega arith)
    by_test false is rest = rest is

pub nothing_found : (view : View) (place : ℕ) (q : Declared → Bool) (ds : List Declared) → list_any q ds ≡ false
    → found_keys_of view place (filter q ds) ≡ []
unfolding found_keys_of
nothing_found view place q ds none = ap (found_keys_of view place) (any_none q ds none)

pub something_found : (view : View) (place : ℕ) (q : Declared → Bool) (ds : List Declared) → list_any q ds ≡ true
    → found_keys_of view place (filter q ds) ≡ crate_key code.Wildcard place no_span
    ∷ map (unresolved_key_at place) (filter (is_unresolved view) (filter q ds))
unfolding found_keys_of
something_found view place q ds some = ap (λ b. cond b [] (crate_key code.Wildcard place no_span
    ∷ map (unresolved_key_at place) (filter (is_unresolved view) (filter q ds)))) (any_some q ds some)

-- ---- the crate at a place

module _ (p : Policy) (g : Graph) (view : View) (asked : List Bool) (place : ℕ) (c : Crate)
    (marked : mark_at asked place ≡ true)
    (at : crate_at g place ≡ Some c) where
  found_at : found_keys_at p g view asked place ≡ found_keys_of view place (found_in p g view c)
  unfolding found_keys_at
  found_at = ap (λ b. cond b (option_map_or (λ d. found_keys_of view place (found_in p g view d)) (crate_at g place)
      []) []) marked
      ∙ ap (λ o. option_map_or (λ d. found_keys_of view place (found_in p g view d)) o []) at

  pub none_there : manifest_of view c ≡ None → found_keys_at p g view asked place ≡ []
  unfolding found_keys_of
  none_there none = found_at ∙ ap (λ o. found_keys_of view place (option_map_or (wildcards_in p g c) o [])) none

  pub found_there : (m : Manifest) → manifest_of view c ≡ Some m
      → found_keys_at p g view asked place ≡ found_keys_of view place (wildcards_in p g c m)
  found_there m is = found_at ∙ ap (λ o. found_keys_of view place (option_map_or (wildcards_in p g c) o [])) is

-- ---- by places and by crates

module _ (p : Policy) (g : Graph) (facts : Facts) (view : View) where
  -- the keys of both rules at a crate
  abbrev both : Crate → List Key
  both c = wildcard_keys_of p g facts view c ++ unresolved_keys_of p g facts view c

  by_list : (place : ℕ) (found : List Declared) → found_keys_of view place found
      ≡ (cond (length found == 0) [] (crate_key code.Wildcard place no_span ∷ []))
      ++ map (unresolved_key_at place) (filter (is_unresolved view) found)
  unfolding found_keys_of
  by_list place [] = refl
  by_list place (d ∷ ds) =
      let some : (length (d ∷ ds) == 0) ≡ false = ne_eqb (suc (length ds)) 0 (omega arith) in
      ap (λ b. cond b [] (crate_key code.Wildcard place no_span
      ∷ map (unresolved_key_at place) (filter (is_unresolved view) (d ∷ ds)))) some
      ∙ ap (λ b. (cond b [] (crate_key code.Wildcard place no_span ∷ []))
      ++ map (unresolved_key_at place) (filter (is_unresolved view) (d ∷ ds))) (sym some)

  by_asked : (c : Crate) (b : Bool) → is_asked p facts c ≡ b
      → cond b (found_keys_of view c.place (found_in p g view c)) [] ≡ both c
  unfolding wildcard_keys_of unresolved_keys_of unresolved_key wildcards_of
  by_asked c true is = by_list c.place (found_in p g view c)
      ∙ ap (λ b. (cond (length (cond b (found_in p g view c) []) == 0) []
      (crate_key code.Wildcard c.place no_span ∷ []))
      ++ map (unresolved_key_at c.place) (filter (is_unresolved view) (cond b (found_in p g view c) []))) (sym is)
  by_asked c false is =
      ap (λ b. (cond (length (cond b (found_in p g view c) []) == 0) [] (crate_key code.Wildcard c.place no_span ∷ []))
      ++ map (unresolved_key_at c.place) (filter (is_unresolved view) (cond b (found_in p g view c) []))) (sym is)

  module _ (placed : ArePlaced g.crates) (asked : List Bool) (are : asked ≡ map (is_asked p facts) g.crates) where
    found_is : (c : Crate) → Contains g.crates c → found_keys_at p g view asked c.place ≡ both c
    unfolding found_keys_at
    found_is c is =
        ap (λ b. cond b (option_map_or (λ d. found_keys_of view c.place (found_in p g view d))
        (slice_get g.crates c.place) [])
        []) (marked-is g.crates placed (is_asked p facts) asked are c is)
        ∙ (ap (λ o. cond (is_asked p facts c)
        (option_map_or (λ d. found_keys_of view c.place (found_in p g view d)) o []) []) (placed.at c is)
        ∙ by_asked c (is_asked p facts c) refl)

    pub found_are : flat_map (found_keys_at p g view asked) (range_with_len 0 (length g.crates))
        ≡ flat_map both g.crates
    found_are = ap (flat_map (found_keys_at p g view asked)) (sym placed.places)
        ∙ flat_map-place_of (found_keys_at p g view asked) both g.crates found_is

  -- ---- added keys

  abbrev IsEither : Key → Type 0
  IsEither key = Contains (wildcard_keys p g facts view) key ⊎ Contains (unresolved_keys p g facts view) key

  pub none_hold : (keys : List Key) → is_active p.wildcards ≡ false → Adds IsEither keys keys
  none_hold keys off = record {
    kept = λ key is. is;
    whole = λ key is. absurd (elim is as (λ _. ⊥) [
      | inl one ↦ no_member key (subst (λ b. Contains (cond b (flat_map (wildcard_keys_of p g facts view) g.crates)
          []) key) off one)
      | inr two ↦ no_member key (subst (λ b. Contains (cond b (flat_map (unresolved_keys_of p g facts view) g.crates)
          []) key) off two)
    ]);
    sound = λ key is. inl is;
  }

  pub both_hold : (old new : List Key) → is_active p.wildcards ≡ true → new ≡ old ++ flat_map both g.crates
      → Adds IsEither old new
  both_hold old new on added =
      let ones = flat_map (wildcard_keys_of p g facts view) g.crates in
      let twos = flat_map (unresolved_keys_of p g facts view) g.crates in
      adds_same (Contains (flat_map both g.crates)) IsEither old new (adds_list old new (flat_map both g.crates) added)
      (λ key is. subst (λ b. Contains (cond b ones []) key ⊎ Contains (cond b twos []) key) (sym on)
      (apart (wildcard_keys_of p g facts view) (unresolved_keys_of p g facts view) g.crates key is))
      (λ key is. together (wildcard_keys_of p g facts view) (unresolved_keys_of p g facts view) g.crates key
      (subst (λ b. Contains (cond b ones []) key ⊎ Contains (cond b twos []) key) on is))
