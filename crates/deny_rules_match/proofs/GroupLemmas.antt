-- The crates of one name: which of them may be duplicates, and which are left in the reduced group.
use Rattle.std.proofs.Common.{◌≡◌, ℕ, suc, ◌+◌, ◌-◌, ◌≤◌, Bool, true, false, not, List, [], ◌∷◌, ◌++◌, length, map}
use Rattle.std.proofs.Common.{filter, take, drop, get_or, cond, refl, sym, ap, ◌∙◌, inl, inr, arith, drop-cons}
use Rattle.std.specs.Prelude.{◌&&◌, ◌||◌, ◌==◌, slice_index_or}
use Rattle.std.specs.List.{list_all, list_any, range_with_len}
use Rattle.std.proofs.Math.Bool.{and-true}
use Rattle.std.proofs.Math.ListN.{drop_of_length-le}
use Rattle.std.proofs.Math.Seq.{take-nil}
use Rattle.std.proofs.lemmas.Bool.{cases_Bool, cases_lt, cond-true, cond-false}
use Rattle.std.proofs.lemmas.List.{get_or_past, map-append}
use Rattle.deny_cfg.specs.PolicyView.{roots_from}
use Rattle.deny_cfg.specs.TreeSkipExtended.{TreeSkipExtended}
use Rattle.deny_cfg.specs.PackageSpecOrExtended.{PackageSpecOrExtended}
use Rattle.deny_spec.specs.Facts.{Facts}
use Rattle.deny_spec.specs.Graph.{Crate, Graph, dependents}
use Rattle.deny_spec.specs.Groups.{has_name, group, is_in_group, is_internal, is_marked, is_in_skipped_tree}
use Rattle.deny_spec.specs.Groups.{may_duplicate, reduced}
use Rattle.deny_spec.specs.Policy.{Policy}
use Rattle.deny_base_lists.proofs.Agreement.{AgreeOn, filter_on, map_on}
use Rattle.deny_rules_match.specs.Groups.{is_left}
use Rattle.deny_rules_match.specs.private.Groups.{is_left_at, may_duplicate_at, AddsLeft}
use Rattle.deny_rules_match.specs.Marks.{mark_at, marked}
use Rattle.deny_rules_match.specs.Placed.{ArePlaced}
use Rattle.deny_base_lists.proofs.Filters.{filter-filter}
use Rattle.deny_rules_match.proofs.MarkLemmas.{marked-is}
use Rattle.deny_base_lists.proofs.Members.{Contains-from_filter}
use Rattle.deny_rules_match.proofs.RunLemmas.{IsRunOf, count-run, map-run, named_is, take-next}

-- trees by the numbers of their entries

none_of_none : (es : List (PackageSpecOrExtended TreeSkipExtended)) (trees : List (List Bool)) (c : Crate) → trees ≡ []
    → list_any (λ tree. marked tree c) (take (length es) trees) ≡ false
none_of_none es trees c none = ap (λ ts. list_any (λ tree. marked tree c) (take (length es) ts)) none
    ∙ ap (list_any (λ tree. marked tree c)) (take-nil (length es))

in_tree_from : (at : ℕ) (es : List (PackageSpecOrExtended TreeSkipExtended)) (trees : List (List Bool)) (c : Crate)
    → list_any (λ tree. marked tree c) (take (length es) (drop at trees)) ≡ list_any
    (λ t. marked (slice_index_or trees t.number []) c) (roots_from at es)
in_tree_from at [] trees c = refl
in_tree_from at (e ∷ es) trees c = elim (cases_lt at (length trees)) as
    (λ _. list_any (λ tree. marked tree c) (take (length (e ∷ es)) (drop at trees)) ≡ list_any
    (λ t. marked (slice_index_or trees t.number []) c) (roots_from at (e ∷ es))) [
      | inl within ↦
          ap (λ ts. list_any (λ tree. marked tree c) (take (length (e ∷ es)) ts))
          (drop-cons trees at [] within ∙ ap (λ n. get_or trees at [] ∷ drop n trees) one_more)
          ∙ ap (λ b. marked (slice_index_or trees at []) c || b) (in_tree_from (at + 1) es trees c)
      | inr past ↦
          none_of_none (e ∷ es) (drop at trees) c (drop_of_length-le trees past)
          ∙ sym (ap (λ tree. marked tree c || list_any (λ t. marked (slice_index_or trees t.number []) c)
          (roots_from (at + 1) es)) (get_or_past trees at [] past)
          ∙ (sym (in_tree_from (at + 1) es trees c) ∙ none_of_none es (drop (at + 1) trees) c
          (drop_of_length-le trees (omega (arith, past)))))
    ]
  where
    one_more : suc at ≡ at + 1
    one_more = omega arith

pub in_tree_are : (es : List (PackageSpecOrExtended TreeSkipExtended)) (trees : List (List Bool)) (c : Crate)
    → list_any (λ tree. marked tree c) (take (length es) trees) ≡ list_any
    (λ t. marked (slice_index_or trees t.number []) c) (roots_from 0 es)
in_tree_are es trees c = in_tree_from 0 es trees c

-- which crates may be duplicates

pub hold_alike : (p : Policy) (g : Graph) (facts : Facts) (counts skipped in_skipped_tree candidates : List Bool)
    → ArePlaced g.crates → AgreeOn g.crates (marked counts) facts.counts
    → skipped ≡ map (is_marked p) g.crates → in_skipped_tree ≡ map (is_in_skipped_tree p facts) g.crates
    → candidates ≡ map (λ c. may_duplicate_at counts skipped in_skipped_tree c.place) g.crates
    → candidates ≡ map (may_duplicate p facts) g.crates
unfolding may_duplicate may_duplicate_at
hold_alike p g facts counts skipped in_skipped_tree candidates placed counted skips roots are =
    are
    ∙ map_on (λ c. marked counts c && (marked skipped c || not (marked in_skipped_tree c)))
    (may_duplicate p facts) g.crates
    (λ c known.
    ap (λ b. b && (marked skipped c || not (marked in_skipped_tree c))) (counted c known)
    ∙ (ap (λ b. facts.counts c && (b || not (marked in_skipped_tree c)))
    (marked-is g.crates placed (is_marked p) skipped skips c known)
    ∙ ap (λ b. facts.counts c && (is_marked p c || not b))
    (marked-is g.crates placed (is_in_skipped_tree p facts) in_skipped_tree roots c known)))

-- which crates are left in reduced groups

left_alike : (g : Graph) (these those : Crate → Bool) → AgreeOn g.crates these those
    → AgreeOn g.crates (is_left g these) (is_left g those)
unfolding is_left
left_alike g these those agree = λ c known.
    ap (λ b. b && (length (filter (λ d. has_name c.name d && these d) g.crates) == 1 || not (is_internal g c.name c)))
    (agree c known)
    ∙ ap (λ (cs : List Crate). those c && (length cs == 1 || not (is_internal g c.name c)))
    (filter_on (λ d. has_name c.name d && these d) (λ d. has_name c.name d && those d) g.crates
    (λ d is. ap (λ b. has_name c.name d && b) (agree d is)))

-- the marks of the crates left in reduced groups, by the marks of those that may be duplicates
pub left_by_marks : (g : Graph) (holds : Crate → Bool) (candidates reduced : List Bool) → ArePlaced g.crates
    → candidates ≡ map holds g.crates
    → reduced ≡ map (is_left g (marked candidates)) g.crates → reduced ≡ map (is_left g holds) g.crates
left_by_marks g holds candidates reduced placed are left =
    left
    ∙ map_on (is_left g (marked candidates)) (is_left g holds) g.crates
    (left_alike g (marked candidates) holds (marked-is g.crates placed holds candidates are))

module _ (p : Policy) (g : Graph) (facts : Facts) (name : List ℕ) where
  abbrev holds : Crate → Bool
  holds = may_duplicate p facts

  left_of : (c : Crate) → c.name ≡ name → is_left g holds c ≡
      (holds c && (length (group p g facts name) == 1 || not (is_internal g name c)))
  unfolding is_left is_in_group
  left_of c owned = ap (λ (n : List ℕ). holds c &&
      (length (filter (λ d. has_name n d && holds d) g.crates) == 1 || not (is_internal g n c))) owned

  keeps : (keep : Crate → Bool) → ((c : Crate) → c.name ≡ name → (holds c && keep c) ≡ is_left g holds c)
      → AgreeOn g.crates (λ c. is_in_group p facts name c && keep c) (λ c. has_name name c && is_left g holds c)
  unfolding is_in_group
  keeps keep same = λ c known. elim (cases_Bool (has_name name c)) as
      (λ _. ((has_name name c && holds c) && keep c) ≡ (has_name name c && is_left g holds c)) [
        | inl e ↦ rw e (same c (named_is name c e))
        | inr e ↦ rw e refl
      ]

  kept : (keep : Crate → Bool) → ((c : Crate) → c.name ≡ name → (holds c && keep c) ≡ is_left g holds c)
      → filter (λ c. is_in_group p facts name c && keep c) g.crates ≡ filter (is_left g holds)
      (filter (has_name name) g.crates)
  kept keep same =
      filter_on (λ c. is_in_group p facts name c && keep c) (λ c. has_name name c && is_left g holds c) g.crates
      (keeps keep same)
      ∙ sym (filter-filter (has_name name) (is_left g holds) g.crates)

  -- the reduced group of a name has those of its crates that are left
  reduced-left : reduced p g facts name ≡ filter (is_left g holds) (filter (has_name name) g.crates)
  unfolding reduced
  reduced-left =
      let named : List Crate = group p g facts name in
      let others = filter (λ c. not (is_internal g name c)) named in
      elim (cases_Bool (length named == 1)) as (λ _. cond (length named == 1) named others ≡ filter (is_left g holds)
      (filter (has_name name) g.crates)) [
        | inl e ↦
            cond-true (length named == 1) named others e
            ∙ (filter_on (is_in_group p facts name) (λ c. is_in_group p facts name c && true) g.crates
            (λ c known. sym (and-true (is_in_group p facts name c)))
            ∙ kept (λ c. true) (λ c owned. sym (left_of c owned
            ∙ ap (λ b. holds c && (b || not (is_internal g name c))) e)))
        | inr e ↦
            cond-false (length named == 1) named others e
            ∙ (filter-filter (is_in_group p facts name) (λ c. not (is_internal g name c)) g.crates
            ∙ kept (λ c. not (is_internal g name c)) (λ c owned. sym (left_of c owned
            ∙ ap (λ b. holds c && (b || not (is_internal g name c))) e)))
      ]

-- a reduced group by marks
pub reduced_by_marks : (p : Policy) (g : Graph) (facts : Facts) (name : List ℕ) (marks : List Bool) → ArePlaced g.crates
    → marks ≡ map (is_left g (may_duplicate p facts)) g.crates
    → filter (marked marks) (filter (has_name name) g.crates) ≡ reduced p g facts name
reduced_by_marks p g facts name marks placed are =
    filter_on (marked marks) (is_left g (may_duplicate p facts)) (filter (has_name name) g.crates)
    (λ c is. marked-is g.crates placed (is_left g (may_duplicate p facts)) marks are c
    (Contains-from_filter (has_name name) g.crates c is).0)
    ∙ sym (reduced-left p g facts name)

-- a run of a name, at its marks
pub left_in_run : (g : Graph) (candidates : List Bool) (name : List ℕ) (alone : Bool) (place start end : ℕ)
    → ArePlaced g.crates → end ≤ length g.crates → IsRunOf g.crates name place start end
    → alone ≡ (length (filter (marked candidates) (filter (has_name name) g.crates)) == 1) → (old new : List Bool)
    → new ≡ old ++ map (is_left_at g candidates name alone) (range_with_len place (end - place))
    → AddsLeft g candidates place end old new
unfolding is_left is_left_at is_internal
left_in_run g candidates name alone place start end placed within run one old new added = record {
  added = added ∙ ap (λ ms. old ++ ms) (map-run g.crates placed place end (omega (arith, run.past)) within
      (is_left_at g candidates name alone) ∙ map_on _ _ (take (end - place) (drop place g.crates)) alike);
  up = run.past;
  within = within;
}
  where
    alike : AgreeOn (take (end - place) (drop place g.crates)) (λ c. is_left_at g candidates name alone c.place)
        (is_left g (marked candidates))
    alike = λ c is.
        ap (λ b. marked candidates c && (b || not (list_all (has_name name) (dependents g c.place))))
        (one ∙ ap (λ (cs : List Crate). length cs == 1) (filter-filter (has_name name) (marked candidates) g.crates))
        ∙ ap (λ (n : List ℕ). marked candidates c &&
        (length (filter (λ d. has_name n d && marked candidates d) g.crates) == 1 || not
        (list_all (has_name n) (dependents g c.place)))) (sym (run.named c is))

pub more_left : (g : Graph) (candidates : List Bool) (place next : ℕ) (old new : List Bool)
    → old ≡ map (is_left g (marked candidates)) (take place g.crates) → AddsLeft g candidates place next old new
    → new ≡ map (is_left g (marked candidates)) (take next g.crates)
more_left g candidates place next old new so more =
    let t = is_left g (marked candidates) in
    more.added
    ∙ (ap (λ ms. ms ++ map t (take (next - place) (drop place g.crates))) so
    ∙ (sym (map-append t (take place g.crates) (take (next - place) (drop place g.crates)))
    ∙ ap (map t) (sym (take-next g.crates place next (omega (arith, more.up))))))

pub reduced_length : (g : Graph) (marks : List Bool) (name : List ℕ) (start end size : ℕ) → ArePlaced g.crates
    → start ≤ end → end ≤ length g.crates
    → take (end - start) (drop start g.crates) ≡ filter (has_name name) g.crates
    → size ≡ length (filter (mark_at marks) (range_with_len start (end - start)))
    → (p : Policy) (facts : Facts) → marks ≡ map (is_left g (may_duplicate p facts)) g.crates
    → size ≡ length (reduced p g facts name)
reduced_length g marks name start end size placed up within named is p facts are =
    is
    ∙ (count-run g.crates placed start end up within marks
    ∙ (ap (λ (cs : List Crate). length (filter (marked marks) cs)) named
    ∙ ap length (reduced_by_marks p g facts name marks placed are)))
