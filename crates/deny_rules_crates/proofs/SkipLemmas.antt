-- Crates and their marks, as the rules on skips and skipped trees see them.
use Rattle.std.proofs.Common.{◌≡◌, ◌++◌, ◌∷◌, ℕ, List, [], Bool, true, false, not, filter, length, map, refl, sym, ap}
use Rattle.std.proofs.Common.{◌∙◌, append-nil, append_assoc}
use Rattle.std.specs.Prelude.{◌&&◌, nat_le, nat_lt, slice_index_or}
use Rattle.std.specs.List.{flat_map, list_any, range_with_len}
use Rattle.std.proofs.lemmas.List.{length-map}
use Rattle.std.proofs.lemmas.List.Elements.{filter_agree}
use Rattle.std.proofs.lemmas.List.Folds.{flat_map-map}
use Rattle.std.proofs.lemmas.Simd.{map-map}
use Rattle.deny_base.specs.declared.code.Code.TheVariants.{Skipped, UnmatchedSkip, UnmatchedSkipRoot, UnnecessarySkip}
use Rattle.deny_base.specs.declared.key.Key.{Key}
use Rattle.deny_base.specs.declared.span.Span.{Span}
use Rattle.deny_spec.specs.Facts.{Facts}
use Rattle.deny_spec.specs.Graph.{Crate, Graph}
use Rattle.deny_spec.specs.Groups.{is_marked, reduced}
use Rattle.deny_spec.specs.Keys.{crate_key, unused_key}
use Rattle.deny_spec.specs.Match.{matches}
use Rattle.deny_spec.specs.Policy.{Entry, Policy, Root, Spec}
use Rattle.deny_spec.specs.Skips.{has_root, is_hit_skip, is_needless, is_skipped, is_skipped_by_root}
use Rattle.deny_spec.specs.Skips.{skipped_by_root_keys_of, skipped_keys_of, unmatched_skip_keys}
use Rattle.deny_spec.specs.Skips.{unmatched_skip_root_keys, unnecessary_skip_keys}
use Rattle.deny_spec_report.specs.Skips.{skipped_keys}
use Rattle.deny_base_lists.proofs.Agreement.{filter_on, flat_map_on, map_on}
use Rattle.deny_rules_match.specs.Marks.{facts_of, marked}
use Rattle.deny_rules_match.specs.Matches.{match_by, places_of, root_match, skip_match}
use Rattle.deny_rules_match.specs.Placed.{ArePlaced}
use Rattle.deny_rules_crates.specs.private.Skipping.{is_left_out, is_needless_by, skipped_keys_by, does_match}
use Rattle.deny_rules_match.specs.declared.entry_match.EntryMatch.{EntryMatch}
use Rattle.deny_rules_match.specs.declared.facts.Marks.{Marks}
use Rattle.deny_base_lists.proofs.Filters.{filter-map, filter-none, some-filter}
use Rattle.deny_rules_match.proofs.MarkLemmas.{marked-is}
use Rattle.deny_krates.proofs.PlaceLemmas.{place_of}

-- the places of the crates that pass are not empty exactly where a crate passes
some-places : (p : Crate → Bool) (crates : List Crate) (places : List ℕ) → places ≡ map place_of (filter p crates)
    → nat_lt 0 (length places) ≡ list_any p crates
some-places p crates places is = ap (λ ps. nat_lt 0 (length ps)) is ∙ (ap (nat_lt 0)
    (length-map (filter p crates) place_of) ∙ some-filter p crates)

-- the keys of those entries that pass a test, by the crates that they match
kept_keys : {X : Type 0} (of : X → EntryMatch) (span : X → Span) (made : Span → Key) (p : EntryMatch → Bool)
    (q : X → Bool) (xs : List X) → ((x : X) → (of x).span ≡ span x) → ((x : X) → p (of x) ≡ q x)
    → map (λ m. made m.span) (filter p (map of xs)) ≡ map (λ x. made (span x)) (filter q xs)
kept_keys of span made p q xs at same =
    ap (map (λ (m : EntryMatch). made m.span)) (filter-map p of xs)
    ∙ (map-map (λ (m : EntryMatch). made m.span) of (filter (λ x. p (of x)) xs)
    ∙ (ap (map (λ x. made (of x).span)) (filter_agree (λ x. p (of x)) q same xs)
    ∙ map_on (λ x. made (of x).span) (λ x. made (span x)) (filter q xs) (λ x _. ap made (at x))))

-- an entry matches a crate where one passes
does_match_is : (g : Graph) (spec : Spec) (t : Crate → Bool) → does_match (match_by g spec t) ≡ list_any t g.crates
unfolding does_match
does_match_is g spec t = some-places t g.crates (places_of g t) refl

module _ (p : Policy) (g : Graph) where
  pub skipped_are : (facts : Facts) (ms : List EntryMatch) → ms ≡ map (skip_match g facts) p.skip
      → flat_map skipped_keys_by ms ≡ skipped_keys p g facts
  unfolding skipped_keys_by skipped_keys_of
  skipped_are facts ms are =
      ap (flat_map skipped_keys_by) are
      ∙ (flat_map-map skipped_keys_by (skip_match g facts) p.skip
      ∙ flat_map_on (λ s. skipped_keys_by (skip_match g facts s)) (skipped_keys_of g facts) p.skip
      (λ s _. map-map (λ place. crate_key Skipped place s.spec.span) place_of (filter (is_skipped facts s) g.crates)))

  pub unmatched_are : (facts : Facts) (ms : List EntryMatch) → ms ≡ map (skip_match g facts) p.skip
      → map (λ m. unused_key UnmatchedSkip m.span) (filter (λ m. not (does_match m)) ms) ≡ unmatched_skip_keys p g facts
  unfolding unmatched_skip_keys is_hit_skip
  unmatched_are facts ms are =
      ap (λ (all : List EntryMatch). map (λ m. unused_key UnmatchedSkip m.span)
      (filter (λ m. not (does_match m)) all)) are
      ∙ kept_keys (skip_match g facts) (λ (s : Entry). s.spec.span) (unused_key UnmatchedSkip) (λ m. not (does_match m))
      (λ s. not (is_hit_skip g facts s)) p.skip (λ s. refl)
      (λ s. ap not (does_match_is g s.spec (is_skipped facts s)))

  pub needless_are : (facts : Facts) (ms : List EntryMatch) → ms ≡ map (skip_match g facts) p.skip
      → map (λ m. unused_key UnnecessarySkip m.span) (filter (is_needless_by p g facts) ms)
      ≡ unnecessary_skip_keys p g facts
  unfolding unnecessary_skip_keys is_needless is_needless_by is_hit_skip
  needless_are facts ms are =
      ap (λ (all : List EntryMatch). map (λ m. unused_key UnnecessarySkip m.span)
      (filter (is_needless_by p g facts) all)) are
      ∙ kept_keys (skip_match g facts) (λ (s : Entry). s.spec.span) (unused_key UnnecessarySkip)
      (is_needless_by p g facts) (is_needless p g facts) p.skip (λ s. refl)
      (λ s. ap (λ b. b && nat_le (length (reduced p g facts s.spec.name)) 1)
      (does_match_is g s.spec (is_skipped facts s)))

  pub unmatched_roots_are : (ms : List EntryMatch) → ms ≡ map (root_match g) p.skip_tree
      → map (λ m. unused_key UnmatchedSkipRoot m.span) (filter (λ m. not (does_match m)) ms)
      ≡ unmatched_skip_root_keys p g
  unfolding unmatched_skip_root_keys has_root
  unmatched_roots_are ms are =
      ap (λ (all : List EntryMatch). map (λ m. unused_key UnmatchedSkipRoot m.span)
      (filter (λ m. not (does_match m)) all)) are
      ∙ kept_keys (root_match g) (λ (t : Root). t.spec.span) (unused_key UnmatchedSkipRoot) (λ m. not (does_match m))
      (λ t. not (has_root g t)) p.skip_tree (λ t. refl) (λ t. ap not (does_match_is g t.spec (matches t.spec)))

and_false : (a b : Bool) → (a && (b && false)) ≡ false
and_false true true = refl
and_false true false = refl
and_false false b = refl

-- the keys that five calls added, one after another
pub joined : {X : Type 0} (old one two three four five a b c d e : List X) → one ≡ old ++ a → two ≡ one ++ b
    → three ≡ two ++ c → four ≡ three ++ d → five ≡ four ++ e
    → five ≡ old ++ flat_map (λ (xs : List X). xs) (a ∷ (b ∷ (c ∷ (d ∷ (e ∷ [])))))
joined old one two three four five a b c d e p q r s t = rw (t, s, r, q, p) (simp (append_assoc, append-nil))

-- an empty tree skips no crate
pub no-tree : (p : Policy) (g : Graph) (marks : Marks) (t : Root) → slice_index_or marks.trees t.number [] ≡ []
    → skipped_by_root_keys_of p g (facts_of marks) t ≡ []
unfolding skipped_by_root_keys_of is_skipped_by_root
no-tree p g marks t none = ap (map _) (filter-none (is_skipped_by_root p (facts_of marks) t) g.crates
    (λ c. ap (λ (tree : List Bool). marked marks.counts.items c && (not (is_marked p c) && marked tree c)) none
    ∙ and_false (marked marks.counts.items c) (not (is_marked p c))))

-- the crates that a skipped tree alone skips, by the marks at their places
pub left-out : (p : Policy) (g : Graph) (marks : Marks) (skipped tree : List Bool) (t : Root) → ArePlaced g.crates
    → skipped ≡ map (is_marked p) g.crates → tree ≡ slice_index_or marks.trees t.number []
    → filter (is_left_out marks.counts.items skipped tree) (range_with_len 0 (length g.crates)) ≡ map place_of
    (filter (is_skipped_by_root p (facts_of marks) t) g.crates)
unfolding is_left_out is_skipped_by_root
left-out p g marks skipped tree t placed reported of =
    ap (filter (is_left_out marks.counts.items skipped tree)) (sym placed.places)
    ∙ (filter-map (is_left_out marks.counts.items skipped tree) place_of g.crates
    ∙ ap (map place_of) (filter_on (λ c. is_left_out marks.counts.items skipped tree c.place)
    (is_skipped_by_root p (facts_of marks) t) g.crates
    (λ c holds. ap (λ b. marked marks.counts.items c && (not b && marked tree c))
    (marked-is g.crates placed (is_marked p) skipped reported c holds)
    ∙ ap (λ (ms : List Bool). marked marks.counts.items c && (not (is_marked p c) && marked ms c)) of)))
