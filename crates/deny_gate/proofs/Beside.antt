-- The duplicates of a name by the rules are those of the headline.
use Rattle.std.proofs.Common.{◌≡◌, ◌==◌, ◌≤◌, ℕ, Bool, true, false, not, List, [], ◌∷◌, length, Contains, refl, sym}
use Rattle.std.proofs.Common.{◌∙◌, subst, inl, inr, arith}
use Rattle.std.specs.Prelude.{◌&&◌, ◌||◌, filter}
use Rattle.std.specs.Cmp.{IsTotalOrder, nat_cmp_total, on_total, then_total}
use Rattle.std.specs.Cmp.Lexicographic.{nat_list_cmp_total}
use Rattle.std.specs.List.{list_all}
use Rattle.std.specs.List.Sorted.{IsStrictlySortedBy}
use Rattle.std.specs.declared.cmp.Ordering.{Ordering}
use Rattle.std.proofs.lemmas.Bool.{and_parts, and_from, both_ways, cases_Bool, cond-false, cond_both, eqb-true}
use Rattle.std.proofs.lemmas.Bool.{false_from_ne_true, not-true, not_from_false}
use Rattle.std.proofs.lemmas.Slice.Eq.{bytes_eq-Decides}
use Rattle.semver.specs.OrderLaws.{pre_total}
use Rattle.semver.specs.Parse.{Parts}
use Rattle.deny_base_lists.specs.Ascending.{Lists}
use Rattle.deny_base_lists.proofs.Members.{Contains-cases, Contains-filter, Contains-first, Contains-rest, all_at}
use Rattle.deny_base_lists.proofs.Members.{any_from}
use Rattle.deny_base_lists.proofs.Members.{any_passes, filtered, no_member, passes_filter}
use Rattle.deny_base_lists.proofs.Orders.{not_below_itself}
use Rattle.deny_spec.specs.Facts.{Facts}
use Rattle.deny_spec.specs.Graph.{Crate, Graph, dependents}
use Rattle.deny_spec.specs.Groups.{group, has_name, is_in_group, is_internal, is_marked, is_in_skipped_tree}
use Rattle.deny_spec.specs.Groups.{may_duplicate, reduced}
use Rattle.deny_spec.specs.Groups.{unmarked}
use Rattle.deny_spec.specs.Match.{matches}
use Rattle.deny_spec.specs.Policy.{Entry, Policy, Root}
use Rattle.deny_spec.specs.VersionOrder.{precedence, version_cmp}
use Rattle.deny_spec_report.proofs.Parts.{lists_same}
use Rattle.deny_gate.specs.Headline.{IsNeeded, IsBeside}
use Rattle.deny_gate.proofs.Covered.{depends_is, is_dependent}

-- ---- two that ascend are not in a list of one

precedence-total : IsTotalOrder precedence
precedence-total =
    then_total (on_total (λ (v : Parts). v.0) nat_cmp_total)
    (then_total (on_total (λ (v : Parts). v.1) nat_cmp_total)
    (then_total (on_total (λ (v : Parts). v.2) nat_cmp_total)
    (on_total (λ (v : Parts). v.3) pre_total)))

version_cmp-total : IsTotalOrder version_cmp
version_cmp-total = then_total (on_total (λ (c : Crate). c.version) precedence-total)
    (on_total (λ (c : Crate). c.id) nat_list_cmp_total)

only : {T : Type 0} (z x : T) → Contains (z ∷ []) x → z ≡ x
only z x is = elim (Contains-cases z [] x is) as (λ _. z ≡ x) [
  | inl same ↦ same
  | inr later ↦ absurd (no_member x later)
]

not_in_one : {T : Type 0} (cmp : T → T → Ordering) → IsTotalOrder cmp → (one xs : List T) → length one ≡ 1
    → IsStrictlySortedBy cmp xs → ((x : T) → Contains xs x → Contains one x) → 2 ≤ length xs → ⊥
unfolding IsStrictlySortedBy
not_in_one cmp total one [] alone ascends within several = omega (arith, several)
not_in_one cmp total one (x ∷ []) alone ascends within several = omega (arith, several)
not_in_one cmp total [] (x ∷ y ∷ ys) alone ascends within several = omega (arith, alone)
not_in_one cmp total (z ∷ w ∷ ws) (x ∷ y ∷ ys) alone ascends within several = omega (arith, alone)
not_in_one cmp total (z ∷ []) (x ∷ y ∷ ys) alone ascends within several =
    let first = only z x (within x (Contains-first x (y ∷ ys))) in
    let second = only z y (within y (Contains-rest x (y ∷ ys) y (Contains-first y ys))) in
    not_below_itself cmp total x y (sym first ∙ second) ascends.0.0

-- ---- the tests of the rules

module _ (p : Policy) (g : Graph) (facts : Facts) (name : List ℕ) where
  abbrev named : List Crate
  named = group p g facts name

  skipped_none : (c : Crate) → is_marked p c ≡ false → (s : Entry) → Contains p.skip s → ¬ (matches s.spec c ≡ true)
  unfolding is_marked
  skipped_none c unmarked_is s written does_match = both_ways (is_marked p c) unmarked_is
      (any_from (λ (s : Entry). matches s.spec c) p.skip s written does_match)

  none_skipped : (c : Crate) → ((s : Entry) → Contains p.skip s → ¬ (matches s.spec c ≡ true)) → is_marked p c ≡ false
  unfolding is_marked
  none_skipped c none = false_from_ne_true (is_marked p c)
      (λ any. let one = any_passes (λ (s : Entry). matches s.spec c) p.skip any in
      none one.one one.member one.passes)

  in_tree_none : (c : Crate) → is_in_skipped_tree p facts c ≡ false → (t : Root) → Contains p.skip_tree t
      → ¬ (facts.in_tree t c ≡ true)
  unfolding is_in_skipped_tree
  in_tree_none c rootless t written lies = both_ways (is_in_skipped_tree p facts c) rootless
      (any_from (λ (t : Root). facts.in_tree t c) p.skip_tree t written lies)

  none_in_tree : (c : Crate) → ((t : Root) → Contains p.skip_tree t → ¬ (facts.in_tree t c ≡ true))
      → is_in_skipped_tree p facts c ≡ false
  unfolding is_in_skipped_tree
  none_in_tree c none = false_from_ne_true (is_in_skipped_tree p facts c)
      (λ any. let one = any_passes (λ (t : Root). facts.in_tree t c) p.skip_tree any in
      none one.one one.member one.passes)

  name_is : (c : Crate) → has_name name c ≡ true → c.name ≡ name
  unfolding has_name
  name_is c test = (bytes_eq-Decides c.name name).0 test

  name_test : (c : Crate) → c.name ≡ name → has_name name c ≡ true
  unfolding has_name
  name_test c same = (bytes_eq-Decides c.name name).1 same

  -- a crate whose dependents all have the name is not needed by another name, and a crate with another dependent is
  needed_from : (c : Crate) → is_internal g name c ≡ false → IsNeeded g name c
  unfolding is_internal
  needed_from c outer =
      let one = some_fails (has_name name) (dependents g c.place) outer in
      record {
        parent = one.0;
        depends = depends_is g one.0 c one.1;
        another = λ same. both_ways (has_name name one.0) one.2 (name_test one.0 same);
      }
    where
      rest_fails : (a b : Bool) → a ≡ true → (a && b) ≡ false → b ≡ false
      rest_fails true b is both = both
      rest_fails false b is both = absurd (both_ways false refl is)

      some_fails : (test : Crate → Bool) (xs : List Crate) → list_all test xs ≡ false
          → (x : Crate) × Contains xs x × (test x ≡ false)
      some_fails test [] fails = absurd (both_ways true fails refl)
      some_fails test (x ∷ xs) fails = elim (cases_Bool (test x))
          as (λ _. (y : Crate) × Contains (x ∷ xs) y × (test y ≡ false)) [
            | inl passes ↦
                let later = some_fails test xs (rest_fails (test x) (list_all test xs) passes fails) in
                (later.0, Contains-rest x xs later.0 later.1, later.2)
            | inr here ↦ (x, Contains-first x xs, here)
          ]

  needed_to : (c : Crate) → IsNeeded g name c → is_internal g name c ≡ false
  unfolding is_internal
  needed_to c needed = false_from_ne_true (is_internal g name c)
      (λ inner. needed.another (name_is needed.parent
      (all_at (has_name name) (dependents g c.place) needed.parent inner
      (is_dependent g needed.parent c needed.depends))))

  -- ---- crates of the group

  in_named : (c : Crate) → IsBeside p g facts name c → Contains named c
  unfolding is_in_group may_duplicate
  in_named c is =
      let rootless = not_from_false (is_in_skipped_tree p facts c) (none_in_tree c is.in_no_tree) in
      let passed = and_from (facts.counts c) (is_marked p c || not (is_in_skipped_tree p facts c)) is.counts
      (or_right (is_marked p c) (not (is_in_skipped_tree p facts c)) rootless) in
      Contains-filter (is_in_group p facts name) g.crates c is.known
      (and_from (has_name name c) (may_duplicate p facts c) (name_test c is.named) passed)
    where
      or_right : (a b : Bool) → b ≡ true → (a || b) ≡ true
      or_right true b is = refl
      or_right false b is = is

  reduced_in_named : (c : Crate) → Contains (reduced p g facts name) c → Contains named c
  unfolding reduced
  reduced_in_named c is =
      cond_both (length named == 1) named (filter (λ c. not (is_internal g name c)) named)
      (λ (cs : List Crate). Contains cs c → Contains named c)
      (λ _ at. at) (λ _ at. filtered (λ (c : Crate). not (is_internal g name c)) named c at) is

  unmarked_in_named : (c : Crate) → Contains (unmarked p g facts name) c → Contains named c
  unmarked_in_named c is = reduced_in_named c
      (filtered (λ (c : Crate). not (is_marked p c)) (reduced p g facts name) c is)

  -- ---- where the group is not of one crate

  module _ (several : (length named == 1) ≡ false) where
    reduced_is : reduced p g facts name ≡ filter (λ c. not (is_internal g name c)) named
    unfolding reduced
    reduced_is = cond-false (length named == 1) named (filter (λ c. not (is_internal g name c)) named) several

    beside_from : (c : Crate) → Contains (unmarked p g facts name) c → IsBeside p g facts name c
    unfolding is_in_group may_duplicate
    beside_from c is =
        let outer : Crate → Bool = λ c. not (is_internal g name c) in
        let free = not-true (is_marked p c)
        (passes_filter (λ (c : Crate). not (is_marked p c)) (reduced p g facts name) c is) in
        let kept = subst (λ (cs : List Crate). Contains cs c) reduced_is
        (filtered (λ (c : Crate). not (is_marked p c)) (reduced p g facts name) c is) in
        let in_group = filtered outer named c kept in
        let test = and_parts (has_name name c) (may_duplicate p facts c)
        (passes_filter (is_in_group p facts name) g.crates c in_group) in
        let passed = and_parts (facts.counts c) (is_marked p c || not (is_in_skipped_tree p facts c)) test.1 in
        let rootless = or_second (is_marked p c) (not (is_in_skipped_tree p facts c)) free passed.1 in
        record {
          known = filtered (is_in_group p facts name) g.crates c in_group;
          named = name_is c test.0;
          counts = passed.0;
          not_skipped = skipped_none c free;
          in_no_tree = in_tree_none c (not-true (is_in_skipped_tree p facts c) rootless);
          needed = needed_from c (not-true (is_internal g name c) (passes_filter outer named c kept));
        }
      where
        or_second : (a b : Bool) → a ≡ false → (a || b) ≡ true → b ≡ true
        or_second true b is either = absurd (both_ways true is refl)
        or_second false b is either = either

    beside_to : (c : Crate) → IsBeside p g facts name c → Contains (unmarked p g facts name) c
    beside_to c is =
        let outer : Crate → Bool = λ c. not (is_internal g name c) in
        let kept = Contains-filter outer named c (in_named c is)
        (not_from_false (is_internal g name c) (needed_to c is.needed)) in
        Contains-filter (λ (c : Crate). not (is_marked p c)) (reduced p g facts name) c
        (subst (λ (cs : List Crate). Contains cs c) (sym reduced_is) kept)
        (not_from_false (is_marked p c) (none_skipped c is.not_skipped))

  -- ---- several that are listed

  not_one : (crates : List Crate) → IsStrictlySortedBy version_cmp crates
      → ((c : Crate) → Contains crates c → Contains named c) → 2 ≤ length crates → (length named == 1) ≡ false
  not_one crates ascends within several = false_from_ne_true (length named == 1)
      (λ one. not_in_one version_cmp version_cmp-total named crates (eqb-true (length named) 1 one) ascends within
      several)

  pub listed_from : (crates : List Crate) → Lists version_cmp (Contains (unmarked p g facts name)) crates
      → 2 ≤ length crates → Lists version_cmp (IsBeside p g facts name) crates
  listed_from crates listed several =
      let more = not_one crates listed.ascending (λ c at. unmarked_in_named c (listed.sound c at)) several in
      lists_same version_cmp (Contains (unmarked p g facts name)) (IsBeside p g facts name) crates listed
      (beside_from more) (beside_to more)

  pub listed_to : (crates : List Crate) → Lists version_cmp (IsBeside p g facts name) crates
      → 2 ≤ length crates → Lists version_cmp (Contains (unmarked p g facts name)) crates
  listed_to crates listed several =
      let more = not_one crates listed.ascending (λ c at. in_named c (listed.sound c at)) several in
      lists_same version_cmp (IsBeside p g facts name) (Contains (unmarked p g facts name)) crates listed
      (beside_to more) (beside_from more)
