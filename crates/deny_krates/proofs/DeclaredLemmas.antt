-- The declarations that resolve, and those of one crate that resolve to another.
use Rattle.std.proofs.Common.{◌≡◌, ◌<◌, ◌+◌, ◌∙◌, ◌⊎◌, ℕ, zero, suc, inl, inr, List, [], ◌∷◌, Bool, true}
use Rattle.std.proofs.Common.{false, Option, Some, None, refl, sym, ap, subst, arith}
use Rattle.std.proofs.Common.{add-zero}
use Rattle.std.specs.Prelude.{◌&&◌, Contains, filter, not, option_map, slice_get}
use Rattle.std.specs.List.{cons_option}
use Rattle.std.specs.Option.{option_and_then}
use Rattle.std.proofs.lemmas.Bool.{and_from, and_parts, cases_lt, false_from_ne_true, not_from_false}
use Rattle.std.proofs.lemmas.Option.{none-some, same_Some}
use Rattle.deny_base_lists.proofs.Members.{Contains-by_cases, Contains-filter, Contains-first, Contains-flat_map}
use Rattle.deny_base_lists.proofs.Members.{Contains-from_filter, Contains-from_flat_map, Contains-rest, from_there}
use Rattle.deny_base_lists.proofs.Members.{no_member, there}
use Rattle.deny_krates.specs.private.Resolved.{AreBetween, AreResolved, IsResolvedAt, is_before, resolved_from}
use Rattle.deny_krates.specs.private.Resolved.{resolved_in, resolved_to}
use Rattle.deny_krates.specs.declared.resolved.ResolvedAt.{ResolvedAt}
use Rattle.deny_krates.proofs.BeforeLemmas.{from_before, to_before}
use Rattle.deny_krates.proofs.NumberLemmas.{HavePlaces}
use Rattle.deny_spec.specs.Graph.{Crate, Dependency, Graph}
use Rattle.deny_spec.specs.Resolution.{declaration_at, resolution}

-- ---- which declarations they are

record IsFrom (g : Graph) (parent first : ℕ) (ds : List Dependency) (r : ResolvedAt) : Type 0 where
  at : ℕ
  declaration : Dependency
  here : slice_get ds at ≡ Some declaration
  parent_is : r.parent ≡ parent
  index_is : r.index ≡ first + at
  resolves : resolution g parent declaration ≡ Some r.child

from_resolved : (g : Graph) (parent first : ℕ) (ds : List Dependency) (r : ResolvedAt)
    → Contains (resolved_from g parent first ds) r → IsFrom g parent first ds r
from_resolved g parent first [] r is = absurd (no_member r is)
from_resolved g parent first (d ∷ ds) r is =
    by_answer (resolution g parent d) refl (λ holds. from_resolved g parent (first + 1) ds r holds) is
  where
    later : IsFrom g parent (first + 1) ds r → IsFrom g parent first (d ∷ ds) r
    later rest = record {
      at = suc rest.at;
      declaration = rest.declaration;
      here = rest.here;
      parent_is = rest.parent_is;
      index_is = omega (arith, rest.index_is);
      resolves = rest.resolves;
    }

    by_answer : (o : Option ℕ) → resolution g parent d ≡ o
        → (Contains (resolved_from g parent (first + 1) ds) r → IsFrom g parent (first + 1) ds r)
        → Contains (cons_option (option_map (resolved_to parent first) o) (resolved_from g parent (first + 1) ds)) r
        → IsFrom g parent first (d ∷ ds) r
    by_answer None answer rest holds = later (rest holds)
    by_answer (Some child) answer rest holds =
        Contains-by_cases (resolved_to parent first child) (resolved_from g parent (first + 1) ds) r holds
        (λ same. record {
          at = 0;
          declaration = d;
          here = refl;
          parent_is = sym (ap (λ (x : ResolvedAt). x.parent) same);
          index_is = sym (ap (λ (x : ResolvedAt). x.index) same) ∙ sym (add-zero first);
          resolves = answer ∙ ap (λ (x : ResolvedAt). Some x.child) same;
        })
        (λ other. later (rest other))

to_resolved : (g : Graph) (parent first : ℕ) (ds : List Dependency) (n child : ℕ) (d : Dependency)
    → slice_get ds n ≡ Some d → resolution g parent d ≡ Some child
    → Contains (resolved_from g parent first ds) (resolved_to parent (first + n) child)
to_resolved g parent first [] n child d at resolves = absurd (none-some d at)
to_resolved g parent first (x ∷ ds) zero child d at resolves =
    let is : resolution g parent x ≡ Some child = ap (resolution g parent) (same_Some x d at) ∙ resolves in
    subst (λ (n : ℕ). Contains (resolved_from g parent first (x ∷ ds)) (resolved_to parent n child))
    (sym (add-zero first))
    (subst (λ (o : Option ℕ). Contains
    (cons_option (option_map (resolved_to parent first) o) (resolved_from g parent (first + 1) ds))
    (resolved_to parent first child)) (sym is)
    (Contains-first (resolved_to parent first child) (resolved_from g parent (first + 1) ds)))
to_resolved g parent first (x ∷ ds) (suc n) child d at resolves =
    let moved : (first + 1) + n ≡ first + suc n = omega arith in
    subst (λ (m : ℕ). Contains (resolved_from g parent first (x ∷ ds)) (resolved_to parent m child)) moved
    (behind (option_map (resolved_to parent first) (resolution g parent x))
    (to_resolved g parent (first + 1) ds n child d at resolves))
  where
    behind : (o : Option ResolvedAt)
        → Contains (resolved_from g parent (first + 1) ds) (resolved_to parent ((first + 1) + n) child)
        → Contains (cons_option o (resolved_from g parent (first + 1) ds)) (resolved_to parent ((first + 1) + n) child)
    behind None holds = holds
    behind (Some r) holds = Contains-rest r (resolved_from g parent (first + 1) ds)
        (resolved_to parent ((first + 1) + n) child) holds

module _ (g : Graph) (placed : HavePlaces g) where
  resolved_sound : (r : ResolvedAt) → Contains (resolved_in g g.crates) r → IsResolvedAt g r
  resolved_sound r is =
      let of = Contains-from_flat_map (λ (c : Crate). resolved_from g c.place 0 c.deps) g.crates r is in
      let at = there g.crates of.from of.member in
      let from = from_resolved g of.from.place 0 of.from.deps r of.of in
      let place : at.0 ≡ r.parent = sym (placed.each at.0 of.from at.1) ∙ sym from.parent_is in
      let index : from.at ≡ r.index = omega (arith, from.index_is) in
      let krate : slice_get g.crates r.parent ≡ Some of.from =
      subst (λ (n : ℕ). slice_get g.crates n ≡ Some of.from) place at.1 in
      let here : declaration_at g r.parent r.index ≡ Some from.declaration =
      ap (option_and_then (λ (c : Crate). slice_get c.deps r.index)) krate
      ∙ subst (λ (n : ℕ). slice_get of.from.deps n ≡ Some from.declaration) index from.here in
      ap (option_and_then (resolution g r.parent)) here
      ∙ subst (λ (n : ℕ). resolution g n from.declaration ≡ Some r.child) (sym from.parent_is) from.resolves

  resolved_whole : (parent index child : ℕ) → IsResolvedAt g (resolved_to parent index child)
      → Contains (resolved_in g g.crates) (resolved_to parent index child)
  resolved_whole parent index child is = by_crate (slice_get g.crates parent) refl is
    where
      by_declaration : (c : Crate) → slice_get g.crates parent ≡ Some c → (o : Option Dependency)
          → slice_get c.deps index ≡ o → option_and_then (resolution g parent) o ≡ Some child
          → Contains (resolved_in g g.crates) (resolved_to parent index child)
      by_declaration c at None here resolves = absurd (none-some child resolves)
      by_declaration c at (Some d) here resolves =
          let place : c.place ≡ parent = placed.each parent c at in
          let zero_on : 0 + index ≡ index = omega arith in
          Contains-flat_map (λ (x : Crate). resolved_from g x.place 0 x.deps) g.crates c
          (resolved_to parent index child) (from_there g.crates parent c at)
          (subst (λ (n : ℕ). Contains (resolved_from g n 0 c.deps) (resolved_to parent index child)) (sym place)
          (subst (λ (n : ℕ). Contains (resolved_from g parent 0 c.deps) (resolved_to parent n child)) zero_on
          (to_resolved g parent 0 c.deps index child d here resolves)))

      by_crate : (o : Option Crate) → slice_get g.crates parent ≡ o
          → option_and_then (resolution g parent) (option_and_then (λ (c : Crate). slice_get c.deps index) o)
          ≡ Some child
          → Contains (resolved_in g g.crates) (resolved_to parent index child)
      by_crate None at resolves = absurd (none-some child resolves)
      by_crate (Some c) at resolves = by_declaration c at (slice_get c.deps index) refl resolves

  -- the resolved declarations of a parent and a child
  pub between_are : (rs : List ResolvedAt) (child parent : ℕ) → AreResolved g rs
      → AreBetween g child parent (filter (λ r. not (is_before r.child r.parent child parent)
      && is_before r.child r.parent child (parent + 1)) rs)
  between_are rs child parent listed = record {
    whole = λ index is. Contains-filter (λ (r : ResolvedAt). not (is_before r.child r.parent child parent)
        && is_before r.child r.parent child (parent + 1)) rs (resolved_to parent index child)
        (listed.whole (resolved_to parent index child) (resolved_whole parent index child is))
        (and_from (not (is_before child parent child parent)) (is_before child parent child (parent + 1))
        (not_from_false (is_before child parent child parent) (false_from_ne_true (is_before child parent child parent)
        (λ before. not_before child parent (from_before child parent child parent before))))
        (to_before child parent child (parent + 1) (inr (refl, omega arith))));
    sound = λ r is.
        let kept = Contains-from_filter (λ (r : ResolvedAt). not (is_before r.child r.parent child parent)
        && is_before r.child r.parent child (parent + 1)) rs r is in
        let parts = and_parts (not (is_before r.child r.parent child parent))
        (is_before r.child r.parent child (parent + 1)) kept.1 in
        let ends = there_is r.child r.parent parts.0 (from_before r.child r.parent child (parent + 1) parts.1) in
        (ends.0, ends.1, resolved_sound r (listed.sound r kept.0));
  }
    where
      not_before : (a b : ℕ) → (a < a) ⊎ ((a ≡ a) × (b < b)) → ⊥
      not_before a b (inl less) = absurd (omega (arith, less))
      not_before a b (inr tie) = absurd (omega (arith, tie.1))

      not_true : (b : Bool) → b ≡ true → not b ≡ true → ⊥
      not_true true is other = absurd (cc)
      not_true false is other = absurd (cc)

      there_is : (a b : ℕ) → not (is_before a b child parent) ≡ true → (a < child) ⊎ ((a ≡ child) × (b < parent + 1))
          → (a ≡ child) × (b ≡ parent)
      there_is a b not_yet (inl less) =
          absurd (not_true (is_before a b child parent) (to_before a b child parent (inl less)) not_yet)
      there_is a b not_yet (inr tie) = (
        tie.0,
        elim (cases_lt b parent) as (λ _. b ≡ parent) [
          | inl less ↦ absurd (not_true (is_before a b child parent)
              (to_before a b child parent (inr (tie.0, less))) not_yet)
          | inr not_less ↦ omega (arith, tie.1, not_less)
        ],
      )
