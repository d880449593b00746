-- A small case of the edges of a duplicate: the edges above its crates, and the set of each.
use Rattle.std.proofs.Common.{◌≡◌, ◌∙◌, ◌⊎◌, ◌≤◌, ℕ, zero, suc, List, [], ◌∷◌, Some, inl, inr, refl, sym, ap}
use Rattle.std.proofs.Common.{arith, length, subst}
use Rattle.std.specs.Prelude.{Contains, slice_get}
use Rattle.std.specs.List.Sorted.{IsStrictlySortedBy}
use Rattle.std.proofs.lemmas.Option.{same_Some}
use Rattle.deny_base_lists.proofs.Members.{Contains-by_cases, Contains-first, Contains-rest, no_member}
use Rattle.deny_base_lists.specs.Ascending.{Lists}
use Rattle.deny_base.specs.Edge.{edge_cmp, kind_number}
use Rattle.deny_base.specs.declared.edge.DepKind.TheVariants.{Normal}
use Rattle.deny_base.specs.declared.edge.Edge.{Edge}
use Rattle.deny_spec.specs.Counting.{Chain}
use Rattle.deny_spec.specs.Graph.{Graph}
use Rattle.deny_rules_dup_edges.specs.DupEdges.{IsAbove, IsAboveOne, IsNumberOf, IsDupSetOf, IsSimplest}
use Rattle.deny_rules_dup_edges.specs.declared.dup_edges.DupSet.{DupSet}

abbrev edge : ℕ → ℕ → Edge
edge parent child = record { parent = parent; child = child; kind = Normal }

abbrev edges : List Edge
edges = edge 2 0 ∷ edge 2 3 ∷ edge 2 4 ∷ edge 3 1 ∷ []

-- a graph with two crates `x`, at 0 and 1: the crate at 2 needs the first, and the crate at 3, which needs the
-- second; it also needs the crate at 4
abbrev apart : Graph
apart = record { root = []; crates = []; members = 2 ∷ []; edges = edges; target_edges = [] }

-- the edges of this graph, one by one
data IsOne (e : Edge) : Type 0 where
  to_first : e ≡ edge 2 0 → IsOne e
  between : e ≡ edge 2 3 → IsOne e
  besides : e ≡ edge 2 4 → IsOne e
  to_second : e ≡ edge 3 1 → IsOne e

one_of : (e : Edge) → Contains edges e → IsOne e
one_of e is = Contains-by_cases (edge 2 0) (edge 2 3 ∷ edge 2 4 ∷ edge 3 1 ∷ []) e is (λ same. to_first (sym same))
    (λ is. Contains-by_cases (edge 2 3) (edge 2 4 ∷ edge 3 1 ∷ []) e is (λ same. between (sym same))
    (λ is. Contains-by_cases (edge 2 4) (edge 3 1 ∷ []) e is (λ same. besides (sym same))
    (λ is. Contains-by_cases (edge 3 1) [] e is (λ same. to_second (sym same)) (λ none. absurd (no_member e none)))))

parent_of : (e : Edge) → IsOne e → (e.parent ≡ 2) ⊎ (e.parent ≡ 3)
parent_of e (to_first is) = inl (ap (λ (d : Edge). d.parent) is)
parent_of e (between is) = inl (ap (λ (d : Edge). d.parent) is)
parent_of e (besides is) = inl (ap (λ (d : Edge). d.parent) is)
parent_of e (to_second is) = inr (ap (λ (d : Edge). d.parent) is)

-- a chain from a crate that needs none has no edge
ends : (from to n : ℕ) → (from ≡ 2 → ⊥) → (from ≡ 3 → ⊥) → Chain edges from to n → from ≡ to
ends from to zero two three same = same
ends from to (suc n) two three (e, is, at, rest) = elim (parent_of e (one_of e is)) as (λ _. from ≡ to) [
  | inl here ↦ absurd (two (sym at ∙ here))
  | inr here ↦ absurd (three (sym at ∙ here))
]

ends_at : (child to n : ℕ) → child ≡ 1 → Chain edges child to n → 1 ≡ to
ends_at child to n is chain =
    sym is ∙ ends child to n (λ two. omega (arith, is, two)) (λ three. omega (arith, is, three)) chain

-- a chain from the crate at 3 ends there or at 1
from_three : (from to n : ℕ) → from ≡ 3 → Chain edges from to n → (3 ≡ to) ⊎ (1 ≡ to)
from_three from to zero three same = inl (sym three ∙ same)
from_three from to (suc n) three (e, is, at, rest) = elim (one_of e is) as (λ _. (3 ≡ to) ⊎ (1 ≡ to)) [
  | to_first so ↦ absurd (omega (arith, three, at, ap (λ (d : Edge). d.parent) so))
  | between so ↦ absurd (omega (arith, three, at, ap (λ (d : Edge). d.parent) so))
  | besides so ↦ absurd (omega (arith, three, at, ap (λ (d : Edge). d.parent) so))
  | to_second so ↦ inr (ends_at e.child to n (ap (λ (d : Edge). d.child) so) rest)
]

-- ---- which edges are above which crate

child_of : (e d : Edge) → e ≡ d → e.child ≡ d.child
child_of e d is = ap (λ (f : Edge). f.child) is

above_first : (e : Edge) → IsAbove apart 0 e → e ≡ edge 2 0
above_first e above =
    let chain = above.leads.chain in
    let n = above.leads.length in
    elim (one_of e above.holds) as (λ _. e ≡ edge 2 0) [
      | to_first is ↦ is
      | between is ↦ elim (from_three e.child 0 n (child_of e (edge 2 3) is) chain) as (λ _. e ≡ edge 2 0) [
        | inl same ↦ absurd (omega (arith, same))
        | inr same ↦ absurd (omega (arith, same))
      ]
      | besides is ↦
          let at = child_of e (edge 2 4) is in
          let same = ends e.child 0 n (λ two. omega (arith, at, two)) (λ three. omega (arith, at, three)) chain in
          absurd (omega (arith, at, same))
      | to_second is ↦ absurd (omega (arith, ends_at e.child 0 n (child_of e (edge 3 1) is) chain))
    ]

above_second : (e : Edge) → IsAbove apart 1 e → (e ≡ edge 2 3) ⊎ (e ≡ edge 3 1)
above_second e above =
    let chain = above.leads.chain in
    let n = above.leads.length in
    elim (one_of e above.holds) as (λ _. (e ≡ edge 2 3) ⊎ (e ≡ edge 3 1)) [
      | to_first is ↦
          let at = child_of e (edge 2 0) is in
          let same = ends e.child 1 n (λ two. omega (arith, at, two)) (λ three. omega (arith, at, three)) chain in
          absurd (omega (arith, at, same))
      | between is ↦ inl is
      | besides is ↦
          let at = child_of e (edge 2 4) is in
          let same = ends e.child 1 n (λ two. omega (arith, at, two)) (λ three. omega (arith, at, three)) chain in
          absurd (omega (arith, at, same))
      | to_second is ↦ inr is
    ]

at_first : Contains edges (edge 2 0)
at_first = Contains-first (edge 2 0) (edge 2 3 ∷ edge 2 4 ∷ edge 3 1 ∷ [])

at_between : Contains edges (edge 2 3)
at_between = Contains-rest (edge 2 0) (edge 2 3 ∷ edge 2 4 ∷ edge 3 1 ∷ []) (edge 2 3)
    (Contains-first (edge 2 3) (edge 2 4 ∷ edge 3 1 ∷ []))

at_second : Contains edges (edge 3 1)
at_second = Contains-rest (edge 2 0) (edge 2 3 ∷ edge 2 4 ∷ edge 3 1 ∷ []) (edge 3 1)
    (Contains-rest (edge 2 3) (edge 2 4 ∷ edge 3 1 ∷ []) (edge 3 1)
    (Contains-rest (edge 2 4) (edge 3 1 ∷ []) (edge 3 1) (Contains-first (edge 3 1) [])))

first_is : IsAbove apart 0 (edge 2 0)
first_is = record { holds = at_first; leads = record { length = 0; chain = refl } }

second_is : IsAbove apart 1 (edge 3 1)
second_is = record { holds = at_second; leads = record { length = 0; chain = refl } }

between_is : IsAbove apart 1 (edge 2 3)
between_is =
    record { holds = at_between; leads = record { length = 1; chain = (edge 3 1, at_second, refl, refl) } }

-- ---- the edges of the duplicate

abbrev shown : List Edge
shown = edge 2 0 ∷ edge 2 3 ∷ edge 3 1 ∷ []

shown_first : Contains shown (edge 2 0)
shown_first = Contains-first (edge 2 0) (edge 2 3 ∷ edge 3 1 ∷ [])

shown_between : Contains shown (edge 2 3)
shown_between = Contains-rest (edge 2 0) (edge 2 3 ∷ edge 3 1 ∷ []) (edge 2 3)
    (Contains-first (edge 2 3) (edge 3 1 ∷ []))

shown_second : Contains shown (edge 3 1)
shown_second = Contains-rest (edge 2 0) (edge 2 3 ∷ edge 3 1 ∷ []) (edge 3 1)
    (Contains-rest (edge 2 3) (edge 3 1 ∷ []) (edge 3 1) (Contains-first (edge 3 1) []))

is_shown : (e d : Edge) → Contains shown d → e ≡ d → Contains shown e
is_shown e d at is = subst (λ (f : Edge). Contains shown f) (sym is) at

shown_of_first : (place : ℕ) (e : Edge) → 0 ≡ place → IsAbove apart place e → Contains shown e
shown_of_first place e is above =
    is_shown e (edge 2 0) shown_first (above_first e (subst (λ (p : ℕ). IsAbove apart p e) (sym is) above))

shown_of_second : (place : ℕ) (e : Edge) → 1 ≡ place → IsAbove apart place e → Contains shown e
shown_of_second place e is above =
    elim (above_second e (subst (λ (p : ℕ). IsAbove apart p e) (sym is) above)) as (λ _. Contains shown e) [
      | inl so ↦ is_shown e (edge 2 3) shown_between so
      | inr so ↦ is_shown e (edge 3 1) shown_second so
    ]

above_one : (place : ℕ) (e d : Edge) → Contains (0 ∷ 1 ∷ []) place → IsAbove apart place d → d ≡ e
    → IsAboveOne apart (0 ∷ 1 ∷ []) e
above_one place e d at above is = record {
  place = place;
  is_one = at;
  above = subst (λ (f : Edge). IsAbove apart place f) is above;
}

-- all edges above one of the two crates, in order; the edge to the crate at 4 is not among them
ancestor_edges : Lists edge_cmp (IsAboveOne apart (0 ∷ 1 ∷ [])) shown
unfolding IsStrictlySortedBy kind_number
ancestor_edges = record {
  ascending = ((refl, (refl, tt)), ((refl, tt), (tt, tt)));
  whole = λ e is. Contains-by_cases 0 (1 ∷ []) is.place is.is_one (λ first. shown_of_first is.place e first is.above)
      (λ other. Contains-by_cases 1 [] is.place other (λ second. shown_of_second is.place e second is.above)
      (λ none. absurd (no_member is.place none)));
  sound = λ e is. Contains-by_cases (edge 2 0) (edge 2 3 ∷ edge 3 1 ∷ []) e is
      (above_one 0 e (edge 2 0) (Contains-first 0 (1 ∷ [])) first_is)
      (λ is. Contains-by_cases (edge 2 3) (edge 3 1 ∷ []) e is
      (above_one 1 e (edge 2 3) (Contains-rest 0 (1 ∷ []) 1 (Contains-first 1 [])) between_is)
      (λ is. Contains-by_cases (edge 3 1) [] e is
      (above_one 1 e (edge 3 1) (Contains-rest 0 (1 ∷ []) 1 (Contains-first 1 [])) second_is)
      (λ none. absurd (no_member e none))));
}

-- ---- the set of each crate

abbrev set : ℕ → List ℕ → DupSet
set place numbers = record { place = place; edges = numbers }

same_child : (d e f : Edge) → Some d ≡ Some e → e ≡ f → d.child ≡ f.child
same_child d e f found is = ap (λ (x : Edge). x.child) (same_Some d e found ∙ is)

numbers_of_first : (number : ℕ) → IsNumberOf apart shown 0 number → Contains (0 ∷ []) number
numbers_of_first zero is = Contains-first 0 []
numbers_of_first (suc zero) is =
    absurd (omega (arith, same_child (edge 2 3) is.edge (edge 2 0) is.numbered (above_first is.edge is.above)))
numbers_of_first (suc (suc zero)) is =
    absurd (omega (arith, same_child (edge 3 1) is.edge (edge 2 0) is.numbered (above_first is.edge is.above)))
numbers_of_first (suc (suc (suc number))) is = absurd (cc is.numbered)

numbers_of_second : (number : ℕ) → IsNumberOf apart shown 1 number → Contains (1 ∷ 2 ∷ []) number
numbers_of_second zero is = absurd (elim (above_second is.edge is.above) as (λ _. ⊥) [
  | inl so ↦ omega (arith, same_child (edge 2 0) is.edge (edge 2 3) is.numbered so)
  | inr so ↦ omega (arith, same_child (edge 2 0) is.edge (edge 3 1) is.numbered so)
])
numbers_of_second (suc zero) is = Contains-first 1 (2 ∷ [])
numbers_of_second (suc (suc zero)) is = Contains-rest 1 (2 ∷ []) 2 (Contains-first 2 [])
numbers_of_second (suc (suc (suc number))) is = absurd (cc is.numbered)

number_is : (place n number : ℕ) (e : Edge) → slice_get shown n ≡ Some e → IsAbove apart place e → n ≡ number
    → IsNumberOf apart shown place number
number_is place n number e at above is = subst (λ (m : ℕ). IsNumberOf apart shown place m) is
    (record { edge = e; numbered = at; above = above })

set_of_first : IsDupSetOf apart shown 0 (set 0 (0 ∷ []))
unfolding IsStrictlySortedBy
set_of_first = record {
  of_crate = refl;
  numbers = record {
    ascending = (tt, tt);
    whole = numbers_of_first;
    sound = λ number is. Contains-by_cases 0 [] number is (number_is 0 0 number (edge 2 0) refl first_is)
        (λ none. absurd (no_member number none));
  };
}

set_of_second : IsDupSetOf apart shown 1 (set 1 (1 ∷ 2 ∷ []))
unfolding IsStrictlySortedBy
set_of_second = record {
  of_crate = refl;
  numbers = record {
    ascending = ((refl, tt), (tt, tt));
    whole = numbers_of_second;
    sound = λ number is. Contains-by_cases 1 (2 ∷ []) number is (number_is 1 1 number (edge 2 3) refl between_is)
        (λ is. Contains-by_cases 2 [] number is (number_is 1 2 number (edge 3 1) refl second_is)
        (λ none. absurd (no_member number none)));
  };
}

-- the set with the fewest edges is the first
first_is_simplest : IsSimplest (set 0 (0 ∷ []) ∷ set 1 (1 ∷ 2 ∷ []) ∷ []) 0
first_is_simplest =
    record {
      set = set 0 (0 ∷ []);
      numbered = refl;
      fewest = fewest;
      first = λ other s at below. absurd (omega (arith, below));
    }
  where
    fewest : (other : ℕ) (s : DupSet) → slice_get (set 0 (0 ∷ []) ∷ set 1 (1 ∷ 2 ∷ []) ∷ []) other ≡ Some s
        → 1 ≤ length s.edges
    fewest zero s at = omega (arith, ap length (ap (λ (t : DupSet). t.edges) (same_Some _ s at)))
    fewest (suc zero) s at = omega (arith, ap length (ap (λ (t : DupSet). t.edges) (same_Some _ s at)))
    fewest (suc (suc other)) s at = absurd (cc at)

-- ---- two sets with as many edges

abbrev tie : List DupSet
tie = set 0 (0 ∷ []) ∷ set 1 (1 ∷ []) ∷ []

-- the first is the simplest
first_of_tie : IsSimplest tie 0
first_of_tie =
    record {
      set = set 0 (0 ∷ []);
      numbered = refl;
      fewest = fewest;
      first = λ other s at below. absurd (omega (arith, below));
    }
  where
    fewest : (other : ℕ) (s : DupSet) → slice_get tie other ≡ Some s → 1 ≤ length s.edges
    fewest zero s at = omega (arith, ap length (ap (λ (t : DupSet). t.edges) (same_Some _ s at)))
    fewest (suc zero) s at = omega (arith, ap length (ap (λ (t : DupSet). t.edges) (same_Some _ s at)))
    fewest (suc (suc other)) s at = absurd (cc at)

-- and the second is not
not_second_of_tie : IsSimplest tie 1 → ⊥
not_second_of_tie is = omega (
  arith,
  is.first 0 (set 0 (0 ∷ [])) refl (omega arith),
  ap length (ap (λ (t : DupSet). t.edges) (same_Some _ is.set is.numbered)),
)
