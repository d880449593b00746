-- Features that are not allowed, at places and of crates, of one entry and of all.
use Rattle.std.proofs.Common.{◌≡◌, ◌⊎◌, inl, inr, ℕ, ◌+◌, ◌<◌, ◌++◌, Bool, true, false, List, [], ◌∷◌, Some, filter}
use Rattle.std.proofs.Common.{length, map, not, is_some, take, refl, sym, ap, ◌∙◌, subst, arith}
use Rattle.std.specs.Prelude.{◌==◌, Contains, get_or}
use Rattle.std.specs.FinMap as finite
use Rattle.std.proofs.lemmas.List.{take_more}
use Rattle.std.proofs.lemmas.List.Elements.{Contains-append_cases, Contains-append_left, Contains-append_right}
use Rattle.deny_base.specs.declared.key.Key.{Key}
use Rattle.deny_base_lists.specs.Ascending.{Adds}
use Rattle.deny_base_lists.specs.TextMap.{TextFinMap}
use Rattle.deny_base_lists.proofs.Adding.{adds_list, adds_same, adds_then}
use Rattle.deny_base_lists.proofs.Members.{Contains-by_cases, Contains-filter, Contains-first, Contains-from_filter}
use Rattle.deny_base_lists.proofs.Members.{Contains-from_map, contains_map, no_member}
use Rattle.deny_spec.specs.Graph.{Crate, Graph}
use Rattle.deny_spec.specs.Match.{matches}
use Rattle.deny_spec.specs.Policy.{FeatureEntry, Policy}
use Rattle.deny_spec_report.specs.Features.{IsFeatureNotAllowed, Reaches, not_allowed_feature_key}
use Rattle.deny_rules_match.specs.Placed.{ArePlaced}
use Rattle.deny_krates.proofs.PlaceLemmas.{place_of}
use Rattle.deny_rules_features.specs.private.Keys.{IsNotAllowedAt, IsNotAllowedBy, OfOne}
use Rattle.deny_rules_features.specs.Listed.{unlisted_at}
use Rattle.deny_rules_features.specs.private.Reached.{AreReachedAt}
use Rattle.deny_rules_features.proofs.KeyLemmas.{unlisted_is}

-- ---- loops that add the keys of each element

pub adds_none : {X T : Type 0} (P : X → T → Type 0) (old : List T) → Adds (OfOne P []) old old
adds_none P old = record {
  kept = λ y is. is;
  whole = λ y of. absurd (no_member of.one of.member);
  sound = λ y is. inl is;
}

pub adds_one_more : {X T : Type 0} (P : X → T → Type 0) (xs : List X) (x : X) (i : ℕ) (old mid new : List T)
    → i < length xs
    → x ≡ get_or xs i x → Adds (OfOne P (take i xs)) old mid → Adds (P x) mid new
    → Adds (OfOne P (take (i + 1) xs)) old new
adds_one_more {X} {T} P xs x i old mid new inside is before here =
    let more : take (i + 1) xs ≡ take i xs ++ x ∷ [] =
    take_more xs i x inside ∙ ap (λ y. take i xs ++ y ∷ []) (sym is) in
    subst (λ (ys : List X). Adds (OfOne P ys) old new) (sym more)
    (adds_same (λ y. OfOne P (take i xs) y ⊎ P x y) (OfOne P (take i xs ++ x ∷ [])) old new
    (adds_then (OfOne P (take i xs)) (P x) old mid new before here) to from)
  where
    to : (y : T) → OfOne P (take i xs) y ⊎ P x y → OfOne P (take i xs ++ x ∷ []) y
    to y (inl of) = record {
      one = of.one;
      member = Contains-append_left (take i xs) (x ∷ []) of.one of.member;
      gives = of.gives;
    }
    to y (inr gives) = record {
      one = x;
      member = Contains-append_right (take i xs) (x ∷ []) x (Contains-first x []);
      gives = gives;
    }

    from : (y : T) → OfOne P (take i xs ++ x ∷ []) y → OfOne P (take i xs) y ⊎ P x y
    from y of = elim (Contains-append_cases (take i xs) (x ∷ []) of.one of.member)
        as (λ _. OfOne P (take i xs) y ⊎ P x y) [
          | inl before ↦ inl (record { one = of.one; member = before; gives = of.gives })
          | inr last ↦ Contains-by_cases x [] of.one last
              (λ same. inr (subst (λ (z : X). P z y) (sym same) of.gives)) (λ none. absurd (no_member of.one none))
        ]

-- ---- features of the crate at a place

pub none_unlisted : (p : Policy) (g : Graph) (e : FeatureEntry) (place : ℕ) (keys : List Key)
    → length (unlisted_at p g e place) ≡ 0 → Adds (IsNotAllowedAt p g e place) keys keys
none_unlisted p g e place keys none = record {
  kept = λ key is. is;
  whole = λ key holds. absurd (omega (arith, none, holds.unlisted.1));
  sound = λ key is. inl is;
}

pub unreached_are : (p : Policy) (g : Graph) (e : FeatureEntry) (place : ℕ) (set : TextFinMap Bool) (old new : List Key)
    → AreReachedAt g place e.allow.value set
    → new ≡ old ++ map (not_allowed_feature_key place e.spec.span)
    (filter (λ feature. not (is_some (finite.get set feature))) (unlisted_at p g e place))
    → Adds (IsNotAllowedAt p g e place) old new
unreached_are p g e place set old new reached is =
    adds_same (Contains (map (not_allowed_feature_key place e.spec.span) left)) (IsNotAllowedAt p g e place) old new
    (adds_list old new (map (not_allowed_feature_key place e.spec.span) left) is) to from
  where
    left : List (List ℕ)
    left = filter (λ feature. not (is_some (finite.get set feature))) (unlisted_at p g e place)

    not_both : (b : Bool) → not b ≡ true → b ≡ true → ⊥
    not_both true off on = (cc)
    not_both false off on = (cc)

    off : (b : Bool) → (b ≡ true → ⊥) → not b ≡ true
    off true not_on = absurd (not_on refl)
    off false not_on = refl

    to : (key : Key) → Contains (map (not_allowed_feature_key place e.spec.span) left) key
        → IsNotAllowedAt p g e place key
    to key one =
        let made = Contains-from_map (not_allowed_feature_key place e.spec.span) left key one in
        let kept = Contains-from_filter (λ feature. not (is_some (finite.get set feature)))
        (unlisted_at p g e place) made.from
        made.member in
        record {
          feature = made.from;
          unlisted = kept.0;
          unreached = λ at. not_both (is_some (finite.get set made.from)) kept.1 ((reached.each made.from).1 at);
          is = sym made.is;
        }

    from : (key : Key) → IsNotAllowedAt p g e place key
        → Contains (map (not_allowed_feature_key place e.spec.span) left) key
    from key holds = subst (Contains (map (not_allowed_feature_key place e.spec.span) left)) (sym holds.is)
        (contains_map (not_allowed_feature_key place e.spec.span) left holds.feature
        (Contains-filter (λ feature. not (is_some (finite.get set feature))) (unlisted_at p g e place) holds.feature
        holds.unlisted
        (off (is_some (finite.get set holds.feature)) (λ on. holds.unreached ((reached.each holds.feature).0 on)))))

-- ---- the keys of one entry

module _ (p : Policy) (g : Graph) (placed : ArePlaced g.crates) (e : FeatureEntry) where
  pub none_by : (keys : List Key) → (e.exact.value ≡ true) ⊎ (length e.allow.value ≡ 0)
      → Adds (IsNotAllowedBy p g e) keys keys
  none_by keys passed = record {
    kept = λ key is. is;
    whole = λ key holds. absurd (never key holds passed);
    sound = λ key is. inl is;
  }
    where
      never : (key : Key) → IsNotAllowedBy p g e key → (e.exact.value ≡ true) ⊎ (length e.allow.value ≡ 0) → ⊥
      never key holds (inl exact) = let a = holds.is_not_allowed.inexact in cc
      never key holds (inr none) = let a = holds.is_not_allowed.some in let b = ap (λ n. n == 0) none in cc

  pub among_are : (places : List ℕ) (old new : List Key) → e.exact.value ≡ false → (length e.allow.value == 0) ≡ false
      → places ≡ map place_of (filter (matches e.spec) g.crates)
      → Adds (OfOne (IsNotAllowedAt p g e) places) old new → Adds (IsNotAllowedBy p g e) old new
  among_are places old new inexact some are adds =
      adds_same (OfOne (IsNotAllowedAt p g e) places) (IsNotAllowedBy p g e) old new adds to from
    where
      to : (key : Key) → OfOne (IsNotAllowedAt p g e) places key → IsNotAllowedBy p g e key
      to key of =
          let made = Contains-from_map place_of (filter (matches e.spec) g.crates) of.one
          (subst (λ (ns : List ℕ). Contains ns of.one) are of.member) in
          let one = Contains-from_filter (matches e.spec) g.crates made.from made.member in
          let here = subst (λ (n : ℕ). IsNotAllowedAt p g e n key) (sym made.is) of.gives in
          record {
            krate = made.from;
            known = one.0;
            feature = here.feature;
            is_not_allowed = record {
              matched_by = one.1;
              inexact = inexact;
              some = some;
              unlisted = subst (λ (fs : List (List ℕ)). Contains fs here.feature)
                  (unlisted_is p g placed e made.from one.0)
                  here.unlisted;
              unreached = λ w allowed reaches. here.unreached (record {
                krate = made.from;
                at = placed.at made.from one.0;
                name = w;
                one = allowed;
                reaches = reaches;
              });
            };
            is = here.is;
          }

      from : (key : Key) → IsNotAllowedBy p g e key → OfOne (IsNotAllowedAt p g e) places key
      from key holds =
          let of = holds.is_not_allowed in
          record {
            one = holds.krate.place;
            member = subst (λ (ns : List ℕ). Contains ns holds.krate.place) (sym are)
                (contains_map place_of (filter (matches e.spec) g.crates) holds.krate
                (Contains-filter (matches e.spec) g.crates holds.krate holds.known of.matched_by));
            gives = record {
              feature = holds.feature;
              unlisted = subst (λ (fs : List (List ℕ)). Contains fs holds.feature)
                  (sym (unlisted_is p g placed e holds.krate holds.known)) of.unlisted;
              unreached = λ at. of.unreached at.name at.one
                  (subst (λ (c : Crate). Reaches c at.name.value holds.feature)
                  (same_crate at.krate holds.krate (sym at.at ∙ placed.at holds.krate holds.known)) at.reaches);
              is = holds.is;
            };
          }
        where
          same_crate : (c d : Crate) → Some c ≡ Some d → c ≡ d
          same_crate c d same = cc

-- ---- the keys of all entries

pub all_are : {X : Type 0} (p : Policy) (g : Graph) (view : X → FeatureEntry) (es : List X) (old new : List Key)
    → map view es ≡ p.features → Adds (OfOne (λ x. IsNotAllowedBy p g (view x)) es) old new
    → Adds (IsFeatureNotAllowed p g) old new
all_are {X} p g view es old new are adds =
    adds_same (OfOne (λ x. IsNotAllowedBy p g (view x)) es) (IsFeatureNotAllowed p g) old new adds
    (λ key of. record {
      entry = view of.one;
      written = subst (λ (fs : List FeatureEntry). Contains fs (view of.one)) are
          (contains_map view es of.one of.member);
      krate = of.gives.krate;
      known = of.gives.known;
      feature = of.gives.feature;
      is_not_allowed = of.gives.is_not_allowed;
      is = of.gives.is;
    })
    (λ key holds.
    let made = Contains-from_map view es holds.entry
    (subst (λ (fs : List FeatureEntry). Contains fs holds.entry) (sym are) holds.written) in
    record {
      one = made.from;
      member = made.member;
      gives = subst (λ (e : FeatureEntry). IsNotAllowedBy p g e key) (sym made.is) (record {
        krate = holds.krate;
        known = holds.known;
        feature = holds.feature;
        is_not_allowed = holds.is_not_allowed;
        is = holds.is;
      });
    })
