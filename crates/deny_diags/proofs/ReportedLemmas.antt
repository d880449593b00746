-- What is looked up for a message: entries by their spans, and crates by their places.
use Rattle.std.proofs.Common.{◌≡◌, ◌+◌, ◌++◌, ◌||◌, ℕ, Bool, true, false, List, [], ◌∷◌, Option, Some, None}
use Rattle.std.proofs.Common.{MatchOption, map, filter_map, option_map, refl, sym, ap, ◌∙◌, subst}
use Rattle.std.specs.Prelude.{IsTrue, codes, cond, find, is_some, option_and_then, unwrap_or}
use Rattle.std.specs.List.{cons_option, list_any}
use Rattle.std.specs.Option.{option_map_or, option_or}
use Rattle.std.proofs.lemmas.List.Elements.{All-contains}
use Rattle.std.proofs.lemmas.List.Folds.{find-append}
use Rattle.std.proofs.lemmas.Option.{slice_get-map, unwrap_or-slice_get}
use Rattle.deny_base.specs.declared.label.Label.{Label}
use Rattle.deny_base.specs.declared.span.Span.{Span}
use Rattle.deny_cfg.specs.PolicyView.{policy_view, root_view, roots_from}
use Rattle.deny_cfg.specs.TreeSkipExtended.{TreeSkipExtended}
use Rattle.deny_cfg.specs.PackageSpecOrExtended.{PackageSpecOrExtended}
use Rattle.deny_cfg.specs.declared.bans.cfg.valid.ValidConfig.{ValidConfig}
use Rattle.deny_spec.specs.Bans.{wrapper_of}
use Rattle.deny_spec.specs.Duplicates.{is_denied_multiple}
use Rattle.deny_spec.specs.Graph.{Crate, Graph}
use Rattle.deny_spec.specs.Policy.{Ban, Policy, Root, SpannedText}
use Rattle.deny_spec.specs.DiagParts.{ban_at, crate_at, crates_at, primary, wrapper_labels}
use Rattle.deny_spec.specs.Wrappers.{same_span}
use Rattle.deny_rules_match.specs.Marks.{mark_at}
use Rattle.deny_rules_match.specs.Matches.{AreBanMatches, IsBanMatch, ban_of}
use Rattle.deny_rules_match.specs.Wrappers as wrappers
use Rattle.deny_rules_match.specs.declared.matches.BanMatch.{BanMatch}
use Rattle.deny_diags_parts.specs.BySpan.{first_of}
use Rattle.deny_base_lists.proofs.Filters.{find-map}
use Rattle.deny_base_lists.proofs.Finding.{found_member}

-- a skipped tree that was found, by some number
abbrev name_span : PackageSpecOrExtended TreeSkipExtended → Span
name_span e = e.spec.name.span

IsRootAt : Span → List Root → Option (PackageSpecOrExtended TreeSkipExtended) → Type 0
IsRootAt this_span roots o = MatchOption o (find (λ t. same_span t.spec.span this_span) roots ≡ None)
    (λ e. (number : ℕ) × (find (λ t. same_span t.spec.span this_span) roots ≡ Some (root_view number e)))

root_found : (this_span : Span) (n : ℕ) (es : List (PackageSpecOrExtended TreeSkipExtended))
    → IsRootAt this_span (roots_from n es) (first_of name_span this_span es)
unfolding IsRootAt
root_found this_span n [] = refl
root_found this_span n (e ∷ es) = by_test (same_span e.spec.name.span this_span) (root_found this_span (n + 1) es)
  where
    by_test : (b : Bool) → IsRootAt this_span (roots_from (n + 1) es) (first_of name_span this_span es)
        → MatchOption (cond b (Some e) (first_of name_span this_span es))
        (cond b (Some (root_view n e)) (find (λ t. same_span t.spec.span this_span) (roots_from (n + 1) es)) ≡ None)
        (λ d. (number : ℕ) × (cond b (Some (root_view n e))
        (find (λ t. same_span t.spec.span this_span) (roots_from (n + 1) es)) ≡ Some (root_view number d)))
    by_test true rest = (n, refl)
    by_test false rest = rest

pub root_there : (this_span : Span) (es : List (PackageSpecOrExtended TreeSkipExtended))
    → IsTrue (is_some (find (λ t. same_span t.spec.span this_span) (roots_from 0 es)))
    → IsTrue (is_some (first_of name_span this_span es))
unfolding IsRootAt
root_there this_span es is = by_item (first_of name_span this_span es) (root_found this_span 0 es)
  where
    by_item : (o : Option (PackageSpecOrExtended TreeSkipExtended)) → IsRootAt this_span (roots_from 0 es) o
        → IsTrue (is_some o)
    by_item None none = subst (λ (o : Option Root). IsTrue (is_some o)) none is
    by_item (Some e) at = refl

pub root_seen : (this_span : Span) (es : List (PackageSpecOrExtended TreeSkipExtended))
    (e : PackageSpecOrExtended TreeSkipExtended) → first_of name_span this_span es ≡ Some e
    → (number : ℕ) × (find (λ t. same_span t.spec.span this_span) (roots_from 0 es) ≡ Some (root_view number e))
unfolding IsRootAt
root_seen this_span es e is = subst (IsRootAt this_span (roots_from 0 es)) is (root_found this_span 0 es)

-- one of the crates at these places passes a test, where one of the places has a mark
pub one_marked : (g : Graph) (t : Crate → Bool) (marks : List Bool) (places : List ℕ) → marks ≡ map t g.crates
    → list_any (mark_at marks) places ≡ list_any t (crates_at g places)
unfolding crates_at
one_marked g t marks [] is = refl
one_marked g t marks (place ∷ places) is = ap (λ b. b || list_any (mark_at marks) places) here
    ∙ (ap (λ b. unwrap_or (option_map t (crate_at g place)) false || b) (one_marked g t marks places is)
    ∙ joined (crate_at g place))
  where
    here : mark_at marks place ≡ unwrap_or (option_map t (crate_at g place)) false
    here = ap (λ ms. mark_at ms place) is ∙ (sym (unwrap_or-slice_get (map t g.crates) place false)
        ∙ ap (λ o. unwrap_or o false) (slice_get-map t g.crates place))

    joined : (o : Option Crate) → (unwrap_or (option_map t o) false || list_any t
        (filter_map (crate_at g) places)) ≡ list_any t (cons_option o (filter_map (crate_at g) places))
    joined None = refl
    joined (Some c) = refl

-- the labels of a ban that was found, and of its wrapper of the name of the crate at a place
pub wrapper_reported : (p : Policy) (g : Graph) (file : ℕ) (this_span : Span) (place : ℕ) (m : BanMatch)
    (found : Option Span)
    → Some (ban_of m) ≡ ban_at p this_span → IsBanMatch p g m → found ≡ wrappers.span_at g m.spans place
    → option_map_or (λ span. primary file (ban_of m).spec.span (codes "banned here") ∷ primary file span
    (codes "allowed wrapper") ∷ []) found []
    ≡ option_map_or (λ ban. wrapper_labels file ban (option_and_then (wrapper_of ban.wrappers) (crate_at g place)))
    (ban_at p this_span) []
unfolding wrapper_of wrappers.first_of wrappers.span_of wrappers.span_at
wrapper_reported p g file this_span place m found is match at =
    ap labels at ∙ (by_crate (crate_at g place) ∙ ap (λ (o : Option Ban). option_map_or (λ ban. wrapper_labels file ban
    (option_and_then (wrapper_of ban.wrappers) (crate_at g place))) o []) is)
  where
    ban : Ban
    ban = ban_of m

    labels : Option Span → List Label
    labels = λ o. option_map_or (λ span. primary file ban.spec.span (codes "banned here") ∷ primary file span
        (codes "allowed wrapper") ∷ []) o []

    by_wrapper : (o : Option SpannedText) → labels (option_map (λ (w : SpannedText). w.span) o)
        ≡ wrapper_labels file ban o
    by_wrapper None = refl
    by_wrapper (Some w) = refl

    by_crate : (o : Option Crate) → labels (option_and_then (wrappers.span_of m.spans) o)
        ≡ wrapper_labels file ban (option_and_then (wrapper_of ban.wrappers) o)
    by_crate None = refl
    by_crate (Some c) = ap labels (match.first c.name) ∙ by_wrapper (wrapper_of ban.wrappers c)

-- ---- matches of entries

pub bans_of_reported : (mine cfg : ValidConfig) (own g : Graph) (ms : List BanMatch) → mine ≡ cfg → own ≡ g
    → AreBanMatches (policy_view mine) own (policy_view mine).deny ms
    → AreBanMatches (policy_view cfg) g (policy_view cfg).deny ms
bans_of_reported mine cfg own g ms same_cfg same_graph are =
    subst (λ (c : ValidConfig). AreBanMatches (policy_view c) g (policy_view c).deny ms) same_cfg
    (subst (λ (h : Graph). AreBanMatches (policy_view mine) h (policy_view mine).deny ms) same_graph are)

pub several_of_reported : (mine cfg : ValidConfig) (own g : Graph) (marks : List Bool) → mine ≡ cfg → own ≡ g
    → marks ≡ map (is_denied_multiple (policy_view mine)) own.crates
    → marks ≡ map (is_denied_multiple (policy_view cfg)) g.crates
several_of_reported mine cfg own g marks same_cfg same_graph are =
    are
    ∙ (ap (λ (c : ValidConfig). map (is_denied_multiple (policy_view c)) own.crates) same_cfg
    ∙ ap (λ (h : Graph). map (is_denied_multiple (policy_view cfg)) h.crates) same_graph)

-- what is found in a list is found in the list of its views
module _ {X Y : Type 0} (test : Y → Bool) (view : X → Y) (xs : List X) where
  pub there_below : IsTrue (is_some (find test (map view xs))) → IsTrue (is_some (find (λ x. test (view x)) xs))
  there_below is = by_item (find (λ x. test (view x)) xs)
      (subst (λ (o : Option Y). IsTrue (is_some o)) (find-map test view xs) is)
    where
      by_item : (o : Option X) → IsTrue (is_some (option_map view o)) → IsTrue (is_some o)
      by_item None some = some
      by_item (Some x) some = refl

  pub seen_at : (x : X) → find (λ x. test (view x)) xs ≡ Some x → Some (view x) ≡ find test (map view xs)
  seen_at x is = sym (find-map test view xs ∙ ap (option_map view) is)

module _ (p : Policy) (g : Graph) (ms : List BanMatch) (this_span : Span) (are : AreBanMatches p g p.deny ms) where
  at_span : Ban → Bool
  at_span ban = same_span ban.spec.span this_span

  -- the ban of a span is among those that were matched
  pub ban_there : IsTrue (is_some (ban_at p this_span))
      → IsTrue (is_some (first_of (λ (m : BanMatch). m.ban.now.spec.name.span) this_span ms))
  unfolding at_span
  ban_there is = there_below at_span ban_of ms
      (subst (λ (bans : List Ban). IsTrue (is_some (find at_span bans))) (sym are.of) is)

  pub ban_seen : (m : BanMatch) → first_of (λ (m : BanMatch). m.ban.now.spec.name.span) this_span ms ≡ Some m
      → Some (ban_of m) ≡ ban_at p this_span
  unfolding at_span
  ban_seen m is = seen_at at_span ban_of ms m is ∙ ap (find at_span) are.of

  pub ban_matched : (m : BanMatch) → first_of (λ (m : BanMatch). m.ban.now.spec.name.span) this_span ms ≡ Some m
      → IsBanMatch p g m
  unfolding at_span
  ban_matched m is = All-contains (IsBanMatch p g) ms m are.each
      (found_member (λ (m : BanMatch). at_span (ban_of m)) ms m is)

-- the first item in two joined lists is that of the first list, where it has one
module _ {X : Type 0} (test : X → Bool) (xs ys : List X) (there : IsTrue (is_some (find test xs))) where
  pub first_found : find test (xs ++ ys) ≡ find test xs
  first_found = find-append test xs ys ∙ by_item (find test xs) there
    where
      by_item : (o : Option X) → IsTrue (is_some o) → option_or o (find test ys) ≡ o
      by_item None some = absurd (cc some)
      by_item (Some x) some = refl

  pub found_in_first : IsTrue (is_some (find test (xs ++ ys)))
  found_in_first = subst (λ (o : Option X). IsTrue (is_some o)) (sym first_found) there

-- the first item in two joined lists is there, where the second list has one
pub found_behind : {X : Type 0} (test : X → Bool) (xs ys : List X) → IsTrue (is_some (find test ys))
    → IsTrue (is_some (find test (xs ++ ys)))
found_behind test xs ys there = subst (λ (o : Option _). IsTrue (is_some o)) (sym (find-append test xs ys))
    (by_item (find test xs))
  where
    by_item : (o : Option _) → IsTrue (is_some (option_or o (find test ys)))
    by_item None = there
    by_item (Some x) = refl
