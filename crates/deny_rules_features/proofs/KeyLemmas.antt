-- The keys by places are the keys by crates.
use Rattle.std.proofs.Common.{◌≡◌, ℕ, suc, arith, ◌++◌, Bool, true, false, List, [], ◌∷◌, Option, Some, None, cond}
use Rattle.std.proofs.Common.{filter, length, map, not, refl, sym, ap, ◌∙◌}
use Rattle.std.specs.Prelude.{◌&&◌, ◌||◌, ◌==◌, Contains}
use Rattle.std.specs.List.{flat_map, list_all, list_any, range_with_len}
use Rattle.std.specs.Option.{option_map_or}
use Rattle.std.proofs.lemmas.Bool.{ne_eqb}
use Rattle.std.proofs.lemmas.Cmp.{nat_list_eq_equiv}
use Rattle.std.proofs.lemmas.Simd.{map-map}
use Rattle.deny_base.specs.declared.code.Code.TheVariants as code
use Rattle.deny_base.specs.declared.level.LintLevel.{LintLevel}
use Rattle.deny_base.specs.declared.level.LintLevel.TheVariants.{Allow, Warn, Deny}
use Rattle.deny_base.specs.declared.span.Spanned.{Spanned}
use Rattle.deny_base_lists.proofs.Agreement.{filter_on, list_any_on, map_on}
use Rattle.deny_base_lists.proofs.Filters.{filter-filter, filter-map, filter-none}
use Rattle.deny_base_lists.proofs.Members.{Contains-from_filter}
use Rattle.deny_base_lists.proofs.Booleans.{and-true}
use Rattle.deny_spec.specs.Graph.{Crate, Graph}
use Rattle.deny_spec.specs.Keys.{crate_key}
use Rattle.deny_spec.specs.Match.{matches}
use Rattle.deny_spec.specs.Policy as policy
use Rattle.deny_spec.specs.Policy.{FeatureEntry, Policy}
use Rattle.deny_spec.specs.Text.{same_text}
use Rattle.deny_spec_report.specs.Features.{banned_features, default_enabled_keys, default_enabled_keys_at}
use Rattle.deny_spec_report.specs.Features.{default_enabled_keys_of, default_feature, default_level}
use Rattle.deny_spec_report.specs.Features.{feature_banned_keys_at, feature_banned_keys_of, has_default_apart}
use Rattle.deny_spec_report.specs.Features.{has_feature, is_default_reported, is_enabled, is_mismatch_reported}
use Rattle.deny_spec_report.specs.Features.{is_mismatched, is_unlisted, leaves_default, mismatched_keys_of}
use Rattle.deny_spec_report.specs.Features.{checks_default, missing, reports_unknown, unknown_feature_keys_at}
use Rattle.deny_spec_report.specs.Features.{unknown_feature_keys_of, unknown_features, unlisted}
use Rattle.deny_spec_report.specs.Members.{is_member}
use Rattle.deny_rules_match.specs.Marks.{AddsMarks, mark_at}
use Rattle.deny_rules_match.specs.Placed.{ArePlaced}
use Rattle.deny_rules_match.proofs.MarkLemmas.{marked-is}
use Rattle.deny_krates.proofs.PlaceLemmas.{place_of, flat_map-place_of}
use Rattle.deny_rules_features.specs.Crates.{enabled_at}
use Rattle.deny_rules_features.specs.private.Crates.{has_feature_at}
use Rattle.deny_rules_features.specs.private.Keys.{banned_keys_at, default_keys_at, default_keys_of}
use Rattle.deny_rules_features.specs.private.Keys.{is_default_enabled_at}
use Rattle.deny_rules_features.specs.private.Keys.{is_left_at, leaves_open, is_on, reports_unknown_at, unknown_keys_at}
use Rattle.deny_rules_features.specs.Listed.{has_default_apart_at, is_unlisted_at, unlisted_at}
use Rattle.deny_rules_features.specs.private.Listed.{is_among, is_mismatched_at}

-- ---- lists

all_or_some : {X : Type 0} (q : X → Bool) (xs : List X) → list_all q xs ≡ (length (filter (λ x. not (q x)) xs) == 0)
all_or_some q [] = refl
all_or_some {X} q (x ∷ xs) = by_test (q x) (all_or_some q xs)
  where
    by_test : (b : Bool) → list_all q xs ≡ (length (filter (λ y. not (q y)) xs) == 0)
        → (b && list_all q xs)
        ≡ (length (cond (not b) (x ∷ filter (λ y. not (q y)) xs) (filter (λ y. not (q y)) xs)) == 0)
    by_test true rest = rest
    by_test false rest = sym (ne_eqb (suc (length (filter (λ y. not (q y)) xs))) 0 (omega arith))

flat-filter : {Y : Type 0} (t : ℕ → Bool) (f : ℕ → List Y) (ns : List ℕ)
    → flat_map f (filter t ns) ≡ flat_map (λ n. cond (t n) (f n) []) ns
flat-filter t f [] = refl
flat-filter {Y} t f (n ∷ ns) = by_test (t n) (flat-filter t f ns)
  where
    by_test : (b : Bool) → flat_map f (filter t ns) ≡ flat_map (λ m. cond (t m) (f m) []) ns
        → flat_map f (cond b (n ∷ filter t ns) (filter t ns))
        ≡ cond b (f n) [] ++ flat_map (λ m. cond (t m) (f m) []) ns
    by_test true rest = ap (λ ys. f n ++ ys) rest
    by_test false rest = rest

flat_none : {X Y : Type 0} (f : X → List Y) (xs : List X) → ((x : X) → f x ≡ []) → flat_map f xs ≡ []
flat_none f [] none = refl
flat_none f (x ∷ xs) none = ap (λ ys. ys ++ flat_map f xs) (none x) ∙ flat_none f xs none

pub default_flips : (features : List (List ℕ))
    → list_any (λ feature. same_text feature default_feature) features ≡ list_any (same_text default_feature) features
default_flips features = list_any_on (λ feature. same_text feature default_feature) (same_text default_feature) features
    (λ feature _. nat_list_eq_equiv.symm feature default_feature)

-- ---- marks of the crates whose entries leave `default` open

leaves_is : (e : FeatureEntry) (b : Bool) → leaves_open e ≡ b → (c : Crate)
    → leaves_default c e ≡ (matches e.spec c && b)
unfolding leaves_default leaves_open
leaves_is e b is c = ap (λ left. matches e.spec c && left) is

or_neither : (a b : Bool) → (a || (b && false)) ≡ a
or_neither true b = refl
or_neither false true = refl
or_neither false false = refl

pub marks_nothing : (crates : List Crate) (e : FeatureEntry) (marks : List Bool) → leaves_open e ≡ false
    → AddsMarks crates (λ c. leaves_default c e) marks marks
marks_nothing crates e marks closed = record {
  is = λ test are. are ∙ map_on test (λ c. test c || leaves_default c e) crates
      (λ c _. sym (ap (λ b. test c || b) (leaves_is e false closed c) ∙ or_neither (test c) (matches e.spec c)));
}

pub marks_open : (crates : List Crate) (e : FeatureEntry) (old new : List Bool) → leaves_open e ≡ true
    → AddsMarks crates (matches e.spec) old new → AddsMarks crates (λ c. leaves_default c e) old new
marks_open crates e old new left adds = record {
  is = λ test are. adds.is test are
      ∙ map_on (λ c. test c || matches e.spec c) (λ c. test c || leaves_default c e) crates
      (λ c _. ap (λ b. test c || b) (sym (leaves_is e true left c ∙ and-true (matches e.spec c))));
}

-- ---- features of the crate at a place

module _ (g : Graph) (placed : ArePlaced g.crates) where
  enabled_is : (c : Crate) → Contains g.crates c → enabled_at g c.place ≡ c.enabled
  enabled_is c is = ap (λ o. option_map_or (λ (d : Crate). d.enabled) o []) (placed.at c is)

  has_feature_is : (c : Crate) (feature : List ℕ) → Contains g.crates c
      → has_feature_at g c.place feature ≡ has_feature c feature
  has_feature_is c feature is = ap (λ o. option_map_or (λ d. has_feature d feature) o false) (placed.at c is)

  -- ---- denied features

  pub banned_are : (e : FeatureEntry) (places : List ℕ) → e.exact.value ≡ false
      → places ≡ map place_of (filter (matches e.spec) g.crates)
      → flat_map (banned_keys_at g e.deny) places ≡ feature_banned_keys_of g e
  unfolding feature_banned_keys_of feature_banned_keys_at banned_features banned_keys_at is_enabled
  banned_are e places inexact are =
      ap (flat_map (banned_keys_at g e.deny)) are
      ∙ flat_map-place_of (banned_keys_at g e.deny) (feature_banned_keys_at e) (filter (matches e.spec) g.crates)
      (λ c is. ap (λ fs. map (λ (w : policy.SpannedText). crate_key code.FeatureBanned c.place w.span)
      (filter (is_among fs) e.deny))
      (enabled_is c (Contains-from_filter (matches e.spec) g.crates c is).0)
      ∙ ap (λ b. map (λ (w : policy.SpannedText). crate_key code.FeatureBanned c.place w.span)
      (cond b [] (filter (is_among c.enabled) e.deny))) (sym inexact))

  pub none_banned : (e : FeatureEntry) → e.exact.value ≡ true → feature_banned_keys_of g e ≡ []
  unfolding feature_banned_keys_of feature_banned_keys_at banned_features
  none_banned e exact = flat_none (feature_banned_keys_at e) (filter (matches e.spec) g.crates)
      (λ c. ap (λ b. map (λ (w : policy.SpannedText). crate_key code.FeatureBanned c.place w.span)
      (cond b [] (filter (λ w. is_enabled c w.value) e.deny))) exact)

module _ (p : Policy) (g : Graph) (placed : ArePlaced g.crates) where
  pub unlisted_is : (e : FeatureEntry) (c : Crate) → Contains g.crates c → unlisted_at p g e c.place ≡ unlisted p g e c
  unfolding unlisted is_unlisted has_default_apart default_level is_member is_unlisted_at has_default_apart_at
  unlisted_is e c is = ap (filter (is_unlisted p g e c)) (enabled_is g placed c is)

  mismatched_is : (e : FeatureEntry) (c : Crate) → Contains g.crates c
      → is_mismatched_at p g e c.place ≡ is_mismatched p g e c
  unfolding is_mismatched is_mismatched_at missing is_enabled
  mismatched_is e c is =
      ap (λ fs. not (length fs == 0) || not (list_all (is_among (enabled_at g c.place)) e.allow.value))
      (unlisted_is e c is)
      ∙ (ap (λ fs. not (length (unlisted p g e c) == 0) || not (list_all (is_among fs) e.allow.value))
      (enabled_is g placed c is)
      ∙ ap (λ b. not (length (unlisted p g e c) == 0) || not b) (all_or_some (is_among c.enabled) e.allow.value))

  -- ---- entries with `exact`

  pub mismatched_are : (e : FeatureEntry) (places others : List ℕ) → e.exact.value ≡ true
      → places ≡ map place_of (filter (matches e.spec) g.crates) → others ≡ filter (is_mismatched_at p g e) places
      → map (λ place. crate_key code.ExactFeaturesMismatch place e.spec.span) others ≡ mismatched_keys_of p g e
  unfolding mismatched_keys_of is_mismatch_reported
  mismatched_are e places others exact are kept =
      let reported : others ≡ map place_of (filter (is_mismatch_reported p g e) g.crates) =
      kept
      ∙ (ap (filter (is_mismatched_at p g e)) are
      ∙ (filter-map (is_mismatched_at p g e) place_of (filter (matches e.spec) g.crates)
      ∙ ap (map place_of) (filter-filter (matches e.spec) (λ (c : Crate). is_mismatched_at p g e c.place) g.crates
      ∙ filter_on (λ (c : Crate). matches e.spec c && is_mismatched_at p g e c.place)
      (is_mismatch_reported p g e) g.crates
      (λ c is. ap (λ b. matches e.spec c && b) (mismatched_is e c is
      ∙ ap (λ b. b && is_mismatched p g e c) (sym exact)))))) in
      ap (map (λ place. crate_key code.ExactFeaturesMismatch place e.spec.span)) reported
      ∙ map-map (λ place. crate_key code.ExactFeaturesMismatch place e.spec.span) place_of
      (filter (is_mismatch_reported p g e) g.crates)

  pub none_mismatched : (e : FeatureEntry) → e.exact.value ≡ false → mismatched_keys_of p g e ≡ []
  unfolding mismatched_keys_of is_mismatch_reported
  none_mismatched e inexact =
      ap (map (λ (c : Crate). crate_key code.ExactFeaturesMismatch c.place e.spec.span))
      (filter-none (is_mismatch_reported p g e) g.crates
      (λ c. ap (λ b. matches e.spec c && (b && is_mismatched p g e c)) inexact
      ∙ and_false (matches e.spec c)))
    where
      and_false : (b : Bool) → (b && false) ≡ false
      and_false true = refl
      and_false false = refl

  -- ---- unknown features

  pub unknown_are : (e : FeatureEntry) (places reported : List ℕ) → places
      ≡ map place_of (filter (matches e.spec) g.crates)
      → reported ≡ filter (reports_unknown_at p g e) places
      → flat_map (unknown_keys_at g (e.allow.value ++ e.deny)) reported ≡ unknown_feature_keys_of p g e
  unfolding unknown_feature_keys_of unknown_feature_keys_at unknown_features unknown_keys_at reports_unknown
      reports_unknown_at
  unknown_are e places reported are kept =
      let listed = e.allow.value ++ e.deny in
      let keys = λ (place : ℕ) (ws : List policy.SpannedText). map
      (λ (w : policy.SpannedText). crate_key code.UnknownFeature place w.span) ws in
      ap (flat_map (unknown_keys_at g listed)) (kept ∙ ap (filter (reports_unknown_at p g e)) are)
      ∙ (flat-filter (reports_unknown_at p g e) (unknown_keys_at g listed)
      (map place_of (filter (matches e.spec) g.crates))
      ∙ flat_map-place_of (λ n. cond (reports_unknown_at p g e n) (unknown_keys_at g listed n) [])
      (unknown_feature_keys_at p g e)
      (filter (matches e.spec) g.crates)
      (λ c of.
      let is = (Contains-from_filter (matches e.spec) g.crates c of).0 in
      ap (λ b. cond (not (e.exact.value && b)) (unknown_keys_at g listed c.place) []) (mismatched_is e c is)
      ∙ by_reported c (reports_unknown p g e c)
      (ap (keys c.place) (filter_on (λ w. not (has_feature_at g c.place w.value))
      (λ w. not (has_feature c w.value)) listed
      (λ w _. ap not (has_feature_is g placed c w.value is))))))
    where
      by_reported : (c : Crate) (b : Bool)
          → map (λ (w : policy.SpannedText). crate_key code.UnknownFeature c.place w.span)
          (filter (λ w. not (has_feature_at g c.place w.value)) (e.allow.value ++ e.deny))
          ≡ map (λ (w : policy.SpannedText). crate_key code.UnknownFeature c.place w.span)
          (filter (λ w. not (has_feature c w.value)) (e.allow.value ++ e.deny))
          → cond b (map (λ (w : policy.SpannedText). crate_key code.UnknownFeature c.place w.span)
          (filter (λ w. not (has_feature_at g c.place w.value)) (e.allow.value ++ e.deny))) []
          ≡ map (λ (w : policy.SpannedText). crate_key code.UnknownFeature c.place w.span)
          (cond b (filter (λ w. not (has_feature c w.value)) (e.allow.value ++ e.deny)) [])
      by_reported c true same = same
      by_reported c false same = refl

  -- ---- the feature `default`

  is_on_is : (c : Crate) (matched unsettled : List Bool) (level : LintLevel) → Contains g.crates c
      → matched ≡ map (λ d. list_any (λ (e : FeatureEntry). matches e.spec d) p.features) g.crates
      → unsettled ≡ map (λ d. list_any (leaves_default d) p.features) g.crates
      → is_on level (is_left_at matched unsettled c.place) ≡ checks_default p c level
  unfolding is_left_at checks_default
  is_on_is c matched unsettled Allow is marks others = refl
  is_on_is c matched unsettled Warn is marks others = refl
  is_on_is c matched unsettled Deny is marks others =
      ap (λ b. not b || mark_at unsettled c.place)
      (marked-is g.crates placed
      (λ d. list_any (λ (e : FeatureEntry). matches e.spec d) p.features) matched marks c is)
      ∙ ap (λ b. not (list_any (λ (e : FeatureEntry). matches e.spec c) p.features) || b)
      (marked-is g.crates placed (λ d. list_any (leaves_default d) p.features) unsettled others c is)

  default_of : (c : Crate) (matched unsettled : List Bool) (at : Spanned LintLevel) → Contains g.crates c
      → matched ≡ map (λ d. list_any (λ (e : FeatureEntry). matches e.spec d) p.features) g.crates
      → unsettled ≡ map (λ d. list_any (leaves_default d) p.features) g.crates
      → default_keys_of g matched unsettled c.place at ≡ default_enabled_keys_of p c at
  unfolding default_keys_of default_enabled_keys_of is_default_reported is_default_enabled_at is_enabled
  default_of c matched unsettled at is marks others =
      ap (λ fs. cond (list_any (same_text default_feature) fs
      && is_on at.value (is_left_at matched unsettled c.place))
      (crate_key code.DefaultFeatureEnabled c.place at.span ∷ []) []) (enabled_is g placed c is)
      ∙ ap (λ b. cond (list_any (same_text default_feature) c.enabled && b)
      (crate_key code.DefaultFeatureEnabled c.place at.span ∷ []) [])
      (is_on_is c matched unsettled at.value is marks others)

  pub default_are : (matched unsettled : List Bool)
      → matched ≡ map (λ d. list_any (λ (e : FeatureEntry). matches e.spec d) p.features) g.crates
      → unsettled ≡ map (λ d. list_any (leaves_default d) p.features) g.crates
      → flat_map (default_keys_at p g matched unsettled) (range_with_len 0 (length g.crates))
      ≡ default_enabled_keys p g
  unfolding default_keys_at default_enabled_keys_at default_level is_member
  default_are matched unsettled marks others =
      ap (flat_map (default_keys_at p g matched unsettled)) (sym placed.places)
      ∙ flat_map-place_of (default_keys_at p g matched unsettled) (default_enabled_keys_at p g) g.crates
      (λ c is. by_level c is (default_level p g c))
    where
      by_level : (c : Crate) → Contains g.crates c → (o : Option (Spanned LintLevel))
          → option_map_or (default_keys_of g matched unsettled c.place) o []
          ≡ option_map_or (default_enabled_keys_of p c) o []
      by_level c is None = refl
      by_level c is (Some at) = default_of c matched unsettled at is marks others
