-- The places that links reach are those that chains of edges lead to.
use Rattle.std.proofs.Common.{◌≡◌, ◌<◌, ◌≤◌, ◌+◌, ◌++◌, ℕ, zero, suc, inl, inr, List, [], ◌∷◌, Bool, true, false, Some}
use Rattle.std.proofs.Common.{length, map, take, refl, sym, ap, ◌∙◌, subst, arith, add-one, append-nil}
use Rattle.std.specs.Prelude.{◌==◌, ◌&&◌, not, All, Contains, filter, slice_get, slice_set, slice_index_or}
use Rattle.std.proofs.lemmas.Bool.{cases_eq, cases_lt, eq-eqb, eqb-true, ne_eqb}
use Rattle.std.proofs.lemmas.List.{map-append, length-set}
use Rattle.std.proofs.lemmas.List.Elements.{All-contains, filter-append}
use Rattle.std.proofs.lemmas.Option.{none-some, slice_get-get_or, slice_get_within, get_or_from_slice_get}
use Rattle.std.proofs.Math.Seq.{take-suc}
use Rattle.deny_base.specs.Edge.{kind_number}
use Rattle.deny_base.specs.declared.edge.DepKind.{DepKind}
use Rattle.deny_base.specs.declared.edge.Edge.{Edge}
use Rattle.deny_spec.specs.Counting.{Chain, IsReachedWithout, edges_without, is_of_kind}
use Rattle.deny_spec.specs.Graph.{Graph}
use Rattle.deny_krates_graph.specs.Filtered.{AreMarks}
use Rattle.deny_krates_graph.specs.private.OtherLinks.{AreOtherLinks, is_other_link, link_of, links_from}
use Rattle.deny_krates_graph.specs.private.Reach.{AreReached, Reaches, from_start, by_link, links_at}
use Rattle.deny_krates_sources.specs.declared.checked.Link.{Link}
use Rattle.deny_krates_sources.specs.declared.checked.ResolvedNode.{ResolvedNode}
use Rattle.deny_base_lists.proofs.Members.{contains_map, filter_keeps, filtered, from_contains_map, from_there}
use Rattle.deny_base_lists.proofs.Members.{passes_filter, there}

-- ---- rows of links, edge by edge

links_more : (kind : DepKind) (edges : List Edge) (i : ℕ) (e : Edge) (place : ℕ) → slice_get edges i ≡ Some e
    → links_from kind (take (i + 1) edges) place ≡ links_from kind (take i edges) place ++ map link_of
    (filter (is_other_link kind place) (e ∷ []))
links_more kind edges i e place at =
    rw (
      add-one,
      take-suc edges i e (slice_get_within edges i e at),
      get_or_from_slice_get edges i e e at,
      filter-append
          (is_other_link kind place) (take i edges) (e ∷ []),
    )
    (map-append link_of (filter (is_other_link kind place) (take i edges)) (filter (is_other_link kind place) (e ∷ [])))

own_way : (kind : DepKind) (e : Edge) (place : ℕ) → e.parent ≡ place → is_of_kind kind e ≡ false
    → map link_of (filter (is_other_link kind place) (e ∷ [])) ≡ link_of e ∷ []
unfolding is_other_link
own_way kind e place own other = rw (eq-eqb e.parent place own, other) refl

no_way : (kind : DepKind) (e : Edge) (place : ℕ) → is_other_link kind place e ≡ false
    → map link_of (filter (is_other_link kind place) (e ∷ [])) ≡ []
no_way kind e place isnt = rw isnt refl

other_way : (kind : DepKind) (e : Edge) (place : ℕ) → (e.parent ≡ place → ⊥) → is_other_link kind place e ≡ false
unfolding is_other_link
other_way kind e place other = rw (ne_eqb e.parent place other) refl

left_out : (kind : DepKind) (e : Edge) (place : ℕ) → is_of_kind kind e ≡ true → is_other_link kind place e ≡ false
unfolding is_other_link
left_out kind e place is = rw is (and_false (e.parent == place))
  where
    and_false : (b : Bool) → (b && false) ≡ false
    and_false true = refl
    and_false false = refl

links_at_set : (rows : List ResolvedNode) (place : ℕ) (row : ResolvedNode) → place < length rows
    → links_at (slice_set rows place row) place ≡ row.links
links_at_set [] place row inside = absurd (omega (arith, inside))
links_at_set (r ∷ rows) zero row inside = refl
links_at_set (r ∷ rows) (suc place) row inside = links_at_set rows place row (omega (arith, inside))

links_at_other : (rows : List ResolvedNode) (place other : ℕ) (row : ResolvedNode) → (other ≡ place → ⊥)
    → links_at (slice_set rows place row) other ≡ links_at rows other
links_at_other [] place other row differ = refl
links_at_other (r ∷ rows) zero zero row differ = absurd (differ refl)
links_at_other (r ∷ rows) zero (suc other) row differ = refl
links_at_other (r ∷ rows) (suc place) zero row differ = refl
links_at_other (r ∷ rows) (suc place) (suc other) row differ =
    links_at_other rows place other row (λ e. differ (ap suc e))

pub ways_skip : (kind : DepKind) (edges : List Edge) (size : ℕ) (rows : List ResolvedNode) (i : ℕ) (e : Edge)
    → AreOtherLinks kind (take i edges) size rows → slice_get edges i ≡ Some e
    → is_of_kind kind e ≡ true → AreOtherLinks kind (take (i + 1) edges) size rows
ways_skip kind edges size rows i e so_far at of = record {
  long = so_far.long;
  at = λ place below. so_far.at place below ∙ sym (links_more kind edges i e place at
      ∙ (ap (λ ls. links_from kind (take i edges) place ++ ls) (no_way kind e place (left_out kind e place of))
      ∙ append-nil (links_from kind (take i edges) place)));
}

pub ways_more : (kind : DepKind) (edges : List Edge) (size : ℕ) (rows : List ResolvedNode) (i : ℕ) (e : Edge)
    (row : ResolvedNode) → AreOtherLinks kind (take i edges) size rows → slice_get edges i ≡ Some e
    → is_of_kind kind e ≡ false → e.parent < size → row.links ≡ links_at rows e.parent ++ link_of e ∷ []
    → AreOtherLinks kind (take (i + 1) edges) size (slice_set rows e.parent row)
ways_more kind edges size rows i e row so_far at other fits made = record {
  long = length-set rows e.parent row ∙ so_far.long;
  at = λ place below. elim (cases_eq place e.parent) as (λ _. links_at (slice_set rows e.parent row) place ≡ links_from
      kind (take (i + 1) edges) place) [
        | inl same ↦
            subst (λ (p : ℕ). links_at (slice_set rows e.parent row) p ≡ links_from kind (take (i + 1) edges) p)
            (sym same)
            (links_at_set rows e.parent row (subst (λ (n : ℕ). e.parent < n) (sym so_far.long) fits) ∙ (made
            ∙ (ap (λ ls. ls ++ link_of e ∷ []) (so_far.at e.parent fits)
            ∙ sym (links_more kind edges i e e.parent at ∙ ap (λ ls. links_from kind (take i edges) e.parent ++ ls)
            (own_way kind e e.parent refl other)))))
        | inr differs ↦
            links_at_other rows e.parent place row differs ∙ (so_far.at place below
            ∙ sym (links_more kind edges i e place at
            ∙ (ap (λ ls. links_from kind (take i edges) place ++ ls)
            (no_way kind e place (other_way kind e place (λ s. differs (sym s)))) ∙ append-nil
            (links_from kind (take i edges) place))))
      ];
}

-- a comparison of kinds decides whether an edge is of another kind
pub not_of : (kind : DepKind) (e : Edge) (r : Bool) → r ≡ not (kind_number e.kind == kind_number kind) → r ≡ true
    → is_of_kind kind e ≡ false
unfolding is_of_kind
not_of kind e r is passes = not_true (kind_number e.kind == kind_number kind) (sym is ∙ passes)
  where
    not_true : (b : Bool) → not b ≡ true → b ≡ false
    not_true true n = cc
    not_true false n = refl

pub just_of : (kind : DepKind) (e : Edge) (r : Bool) → r ≡ not (kind_number e.kind == kind_number kind) → r ≡ false
    → is_of_kind kind e ≡ true
unfolding is_of_kind
just_of kind e r is fails = not_false (kind_number e.kind == kind_number kind) (sym is ∙ fails)
  where
    not_false : (b : Bool) → not b ≡ false → b ≡ true
    not_false true n = refl
    not_false false n = cc

-- ---- the places that links lead to

links_beyond : (rows : List ResolvedNode) (place : ℕ) → length rows ≤ place → links_at rows place ≡ []
links_beyond [] place past = refl
links_beyond (r ∷ rows) zero past = absurd (omega (arith, past))
links_beyond (r ∷ rows) (suc place) past = links_beyond rows place (omega (arith, past))

way_parts : (kind : DepKind) (place : ℕ) (e : Edge) → is_other_link kind place e ≡ true
    → (e.parent ≡ place) × (not (is_of_kind kind e) ≡ true)
unfolding is_other_link
way_parts kind place e is = (eqb-true e.parent place (and_first _ _ is), and_second (e.parent == place) _ is)
  where
    and_first : (a b : Bool) → (a && b) ≡ true → a ≡ true
    and_first true b e = refl
    and_first false b e = e

    and_second : (a b : Bool) → (a && b) ≡ true → b ≡ true
    and_second true b e = e
    and_second false b e = cc

way_whole : (kind : DepKind) (place : ℕ) (e : Edge) → e.parent ≡ place → not (is_of_kind kind e) ≡ true
    → is_other_link kind place e ≡ true
unfolding is_other_link
way_whole kind place e own other = rw (eq-eqb e.parent place own, other) refl

-- a link is that of an edge of another kind
record IsOtherLink (kind : DepKind) (edges : List Edge) (place : ℕ) (l : Link) : Type 0 where
  pub edge : Edge
  pub holds : Contains edges edge
  pub from : edge.parent ≡ place
  pub other : not (is_of_kind kind edge) ≡ true
  pub is : link_of edge ≡ l

way_of : (kind : DepKind) (edges : List Edge) (place : ℕ) (l : Link) → Contains (links_from kind edges place) l
    → IsOtherLink kind edges place l
way_of kind edges place l holds =
    let from = from_contains_map link_of (filter (is_other_link kind place) edges) l holds in
    let parts = way_parts kind place from.0 (passes_filter (is_other_link kind place) edges from.0 from.1) in
    record {
      edge = from.0;
      holds = filtered (is_other_link kind place) edges from.0 from.1;
      from = parts.0;
      other = parts.1;
      is = from.2;
    }

way_there : (kind : DepKind) (edges : List Edge) (e : Edge) → Contains edges e → not (is_of_kind kind e) ≡ true
    → Contains (links_from kind edges e.parent) (link_of e)
way_there kind edges e holds other =
    let at = there edges e holds in
    contains_map link_of (filter (is_other_link kind e.parent) edges) e
    (filter_keeps (is_other_link kind e.parent) edges at.0 e at.1 (way_whole kind e.parent e refl other))

pub ways_inside : (kind : DepKind) (edges : List Edge) (size : ℕ) (rows : List ResolvedNode)
    → AreOtherLinks kind edges size rows → All (λ e. e.child < size) edges → (place : ℕ)
    → All (λ l. l.node < length rows) (links_at rows place)
ways_inside kind edges size rows are children place k d inside =
    elim (cases_lt place size) as (λ _. (slice_index_or (links_at rows place) k d).node < length rows) [
      | inl within ↦
          let l = slice_index_or (links_at rows place) k d in
          let way = way_of kind edges place l
          (subst (λ (ls : List Link). Contains ls l) (are.at place within)
          (from_there (links_at rows place) k l (slice_get-get_or (links_at rows place) k d inside))) in
          subst (λ (n : ℕ). l.node < n) (sym are.long)
          (subst (λ (x : Link). x.node < size) way.is
          (All-contains (λ e. e.child < size) edges way.edge children way.holds))
      | inr past ↦ absurd (none_there (links_at rows place) (links_beyond rows place (omega (arith, past, are.long)))
          inside)
    ]
  where
    none_there : (ls : List Link) → ls ≡ [] → k < length ls → ⊥
    none_there [] e below = omega (arith, below)
    none_there (l ∷ ls) e below = absurd (cc)

chain_on : (edges : List Edge) (a : ℕ) (n : ℕ) (e : Edge) → Chain edges a e.parent n → Contains edges e
    → Chain edges a e.child (suc n)
chain_on edges a zero e chain holds = (e, holds, sym chain, refl)
chain_on edges a (suc n) e chain holds = (chain.0, chain.1, chain.2, chain_on edges chain.0.child n e chain.3 holds)

module _ (kind : DepKind) (g : Graph) (rows : List ResolvedNode)
    (are : AreOtherLinks kind g.edges (length g.crates) rows) where
  reached_by : (place : ℕ) → Reaches rows g.members place → IsReachedWithout kind g place
  reached_by place (from_start start holds) = record { member = start; length = 0; is_member = holds; chain = refl }
  reached_by place (by_link from l reached holds) =
      let before = reached_by from reached in
      let way = step from l holds in
      let at = there g.edges way.edge way.holds in
      let chain : Chain (edges_without kind g) before.member way.edge.parent before.length = subst
      (λ (p : ℕ). Chain (edges_without kind g) before.member p before.length) (sym way.from) before.chain in
      record {
        member = before.member;
        length = suc before.length;
        is_member = before.is_member;
        chain = subst (λ (x : Link). Chain (edges_without kind g) before.member x.node (suc before.length)) way.is
            (chain_on (edges_without kind g) before.member before.length way.edge chain
            (filter_keeps (λ e. not (is_of_kind kind e)) g.edges at.0 way.edge at.1 way.other));
      }
    where
      step : (from : ℕ) (l : Link) → Contains (links_at rows from) l → IsOtherLink kind g.edges from l
      step from l holds = elim (cases_lt from (length g.crates)) as (λ _. IsOtherLink kind g.edges from l) [
        | inl within ↦ way_of kind g.edges from l
            (subst (λ (ls : List Link). Contains ls l) (are.at from within) holds)
        | inr past ↦ absurd (none-some l
            (there [] l (subst (λ (ls : List Link). Contains ls l)
            (links_beyond rows from (omega (arith, past, are.long))) holds)).1)
      ]

  module _ (parents : All (λ e. e.parent < length g.crates) g.edges) where
    reaches_by : (a b n : ℕ) → Chain (edges_without kind g) a b n → Reaches rows g.members a → Reaches rows g.members b
    reaches_by a b zero chain reached = subst (λ (p : ℕ). Reaches rows g.members p) chain reached
    reaches_by a b (suc n) chain reached =
        let e = chain.0 in
        let holds : Contains g.edges e = filtered (λ x. not (is_of_kind kind x)) g.edges e chain.1 in
        let other = passes_filter (λ (x : Edge). not (is_of_kind kind x)) g.edges e chain.1 in
        let within = All-contains (λ (x : Edge). x.parent < length g.crates) g.edges e parents holds in
        let linked : Contains (links_at rows e.parent) (link_of e) = subst (λ (ls : List Link). Contains ls (link_of e))
        (sym (are.at e.parent within)) (way_there kind g.edges e holds other) in
        reaches_by e.child b n chain.3
        (by_link e.parent (link_of e) (subst (λ (p : ℕ). Reaches rows g.members p) (sym chain.2) reached) linked)

    pub marks_are : (marks : List Bool) → AreReached rows g.members marks → AreMarks kind g marks
    marks_are marks reached = record {
      long = reached.long ∙ are.long;
      each = λ place inside. (
        (λ marked. reached_by place (reached.sound place marked)),
        (λ is. reached.whole place (reaches_by is.member place is.length is.chain (from_start is.member is.is_member))),
      );
    }
