-- The direct dependencies of a crate are the crates that its edges lead to, and its direct dependents those that edges
-- to it come from.
use Rattle.std.proofs.Common.{◌≡◌, ◌<◌, ◌≤◌, ℕ, List, [], Option, true, length, map, refl, sym, ap, ◌∙◌, subst, arith}
use Rattle.std.specs.Prelude.{◌↔◌, All, Contains}
use Rattle.std.specs.Cmp.Lexicographic.{nat_list_cmp_total, slice_cmp}
use Rattle.std.specs.List.{list_any}
use Rattle.std.specs.List.Sorted.{IsStrictlySortedBy}
use Rattle.std.specs.Option.{option_map_or}
use Rattle.std.specs.Ordering.{nat_cmp}
use Rattle.std.proofs.lemmas.Bool.{and_parts, eq-eqb, eqb-true}
use Rattle.std.proofs.lemmas.List.{length-map}
use Rattle.std.proofs.lemmas.List.Elements.{All-contains}
use Rattle.deny_base.specs.declared.edge.Edge.{Edge}
use Rattle.deny_krates_graph.specs.Dependents.{AreDirectDependencies, AreDirectDependents, by_id, id_at}
use Rattle.deny_krates_graph.specs.Orderly.{IsOrderly}
use Rattle.deny_krates_graph.specs.declared.krate.DirectDependent.{DirectDependent}
use Rattle.deny_base_lists.proofs.Members.{Contains-filter, Contains-from_filter, Contains-from_map, any_from}
use Rattle.deny_base_lists.proofs.Members.{any_passes}
use Rattle.deny_base_lists.proofs.Members.{contains_map, from_there}
use Rattle.deny_base_lists.proofs.Sorted.{ascends_map, length-ascending}
use Rattle.deny_base_lists.specs.Walk as walk
use Rattle.deny_spec.specs.Graph.{Crate, Graph, dependencies, leads, dependents}
use Rattle.deny_krates.specs.Steps.{HasEdge, HasEdgeFrom}
use Rattle.deny_krates.specs.Placed.{ArePlaced}
use Rattle.deny_krates.proofs.PlaceLemmas.{place_of, holds_at}

-- an edge joins crates of the graph
parent_holds : (g : Graph) → IsOrderly g → (e : Edge) → Contains g.edges e → e.parent < length g.crates
parent_holds g orderly e holds = All-contains (λ d. d.parent < length g.crates) g.edges e orderly.parents holds

pub child_holds : (g : Graph) → IsOrderly g → (e : Edge) → Contains g.edges e → e.child < length g.crates
child_holds g orderly e holds = All-contains (λ d. d.child < length g.crates) g.edges e orderly.children holds

pub edges_stay : (g : Graph) → IsOrderly g → walk.StaysBelow (HasEdge g) (length g.crates)
edges_stay g orderly a b below edge =
    subst (λ (n : ℕ). n < length g.crates) edge.3 (child_holds g orderly edge.0 edge.1)

pub edges_stay_back : (g : Graph) → IsOrderly g → walk.StaysBelow (HasEdgeFrom g) (length g.crates)
edges_stay_back g orderly a b below edge =
    subst (λ (n : ℕ). n < length g.crates) edge.2 (parent_holds g orderly edge.0 edge.1)

-- ---- whether an edge leads from one place to another

leads_is : (e : Edge) (parent child : ℕ) → e.parent ≡ parent → e.child ≡ child → leads parent child e ≡ true
unfolding leads
leads_is e parent child from to = rw (eq-eqb e.parent parent from, eq-eqb e.child child to) refl

pub edge_found : (g : Graph) (parent child : ℕ) → list_any (leads parent child) g.edges ≡ true → HasEdge g parent child
unfolding leads
edge_found g parent child is =
    let found = any_passes (leads parent child) g.edges is in
    let ends = and_parts _ _ found.passes in
    (found.one, found.member, eqb-true found.one.parent parent ends.0, eqb-true found.one.child child ends.1)

pub found_edge : (g : Graph) (parent child : ℕ) → HasEdge g parent child → list_any (leads parent child) g.edges ≡ true
found_edge g parent child edge =
    any_from (leads parent child) g.edges edge.0 edge.1 (leads_is edge.0 parent child edge.2 edge.3)

-- ---- neighbours are listed by the places of the crates that are joined to a place

module _ (g : Graph) (placed : ArePlaced g.crates) (Joined : ℕ → Type 0) (crates : List Crate)
    (ds : List DirectDependent)
    (holds : (c : Crate) → Contains crates c → Contains g.crates c)
    (joined : (c : Crate) → Contains crates c → Joined c.place)
    (kept : (c : Crate) → Contains g.crates c → Joined c.place → Contains crates c)
    (within : (n : ℕ) → Joined n → n < length g.crates)
    (whole : All (λ c. Contains (map (λ d. d.place) ds) c.place) crates)
    (sound : All (λ d. Contains (map (λ c. c.place) crates) d.place) ds) where
  crate_of : (d : DirectDependent) → Contains ds d → (c : Crate) × Contains crates c × (c.place ≡ d.place)
  crate_of d is =
      let c = Contains-from_map place_of crates d.place (All-contains (λ (d : DirectDependent). Contains
      (map place_of crates) d.place) ds d sound is) in
      (c.from, c.member, c.is)

  joined_of : (n : ℕ) → Contains (map (λ (d : DirectDependent). d.place) ds) n → Joined n
  joined_of n is =
      let d = Contains-from_map (λ (d : DirectDependent). d.place) ds n is in
      let c = crate_of d.from d.member in
      subst Joined (c.2 ∙ d.is) (joined c.0 c.1)

  of_joined : (n : ℕ) → Joined n → Contains (map (λ (d : DirectDependent). d.place) ds) n
  of_joined n is =
      let c = holds_at g.crates placed n (within n is) in
      let member = kept c.0 (from_there g.crates n c.0 c.1) (subst Joined (sym c.2) is) in
      let listed = All-contains (λ (c : Crate). Contains (map
      (λ (d : DirectDependent). d.place) ds) c.place) crates c.0 whole member in
      subst (λ (m : ℕ). Contains (map (λ (d : DirectDependent). d.place) ds) m) c.2 listed

  each_joined : (n : ℕ) → Joined n ↔ Contains (map (λ (d : DirectDependent). d.place) ds) n
  each_joined n = (of_joined n, joined_of n)

  -- no two neighbours share an id, so that there are no more neighbours than crates that are joined
  id_listed : (id : List ℕ) → Contains (map (λ (d : DirectDependent). id_at g d.place) ds) id
      → Contains (map (λ (c : Crate). c.id) crates) id
  id_listed id is =
      let d = Contains-from_map (λ (d : DirectDependent). id_at g d.place) ds id is in
      let c = crate_of d.from d.member in
      let here : id_at g c.0.place ≡ c.0.id = ap (λ (o : Option Crate). option_map_or (λ c. c.id) o []) (placed.at c.0
      (holds c.0 c.1)) in
      subst (λ (i : List ℕ). Contains (map (λ (c : Crate). c.id) crates) i) (sym here ∙ (ap (id_at g) c.2 ∙ d.is))
      (contains_map (λ (c : Crate). c.id) crates c.0 c.1)

  few_joined : IsStrictlySortedBy (by_id g) ds → length ds ≤ length crates
  few_joined ascending =
      let id = λ (d : DirectDependent). id_at g d.place in
      let ids = ascends_map (by_id g) (slice_cmp nat_cmp) id (Contains ds) ds (λ x y _ _ below. below)
      (λ x is. is) ascending in
      let fewer = length-ascending nat_list_cmp_total (map id ds) (map (λ (c : Crate). c.id) crates) ids id_listed in
      omega (arith, fewer, length-map ds id, length-map crates (λ (c : Crate). c.id))

module _ (g : Graph) (placed : ArePlaced g.crates) (orderly : IsOrderly g) (place : ℕ) (ds : List DirectDependent) where
  needed_within : (n : ℕ) → HasEdge g place n → n < length g.crates
  needed_within n edge = subst (λ (m : ℕ). m < length g.crates) edge.3 (child_holds g orderly edge.0 edge.1)

  module _ (are : AreDirectDependencies g place ds) where
    needed_holds : (c : Crate) → Contains (dependencies g place) c → Contains g.crates c
    unfolding dependencies
    needed_holds c is = (Contains-from_filter _ g.crates c is).0

    needed_joined : (c : Crate) → Contains (dependencies g place) c → HasEdge g place c.place
    unfolding dependencies
    needed_joined c is = edge_found g place c.place (Contains-from_filter (λ (child : Crate). list_any
        (leads place child.place) g.edges) g.crates c is).1

    needed_kept : (c : Crate) → Contains g.crates c → HasEdge g place c.place → Contains (dependencies g place) c
    unfolding dependencies
    needed_kept c is edge = Contains-filter
        (λ (child : Crate). list_any (leads place child.place) g.edges) g.crates c is (found_edge g place c.place edge)

    pub each_needed : (n : ℕ) → HasEdge g place n ↔ Contains (map (λ (d : DirectDependent). d.place) ds) n
    each_needed = each_joined g placed (HasEdge g place)
        (dependencies g place) ds needed_holds needed_joined needed_kept needed_within are.whole are.sound

    pub few_needed : length ds ≤ length (dependencies g place)
    few_needed = few_joined g placed (HasEdge g place)
        (dependencies g place) ds needed_holds needed_joined needed_kept needed_within are.whole are.sound
        are.ascending

pub dependent_holds : (g : Graph) (place : ℕ) (c : Crate) → Contains (dependents g place) c → Contains g.crates c
unfolding dependents
dependent_holds g place c is = (Contains-from_filter _ g.crates c is).0

module _ (g : Graph) (placed : ArePlaced g.crates) (orderly : IsOrderly g) (place : ℕ) (ds : List DirectDependent) where
  needing_within : (n : ℕ) → HasEdgeFrom g place n → n < length g.crates
  needing_within n edge = subst (λ (m : ℕ). m < length g.crates) edge.2 (parent_holds g orderly edge.0 edge.1)

  module _ (are : AreDirectDependents g place ds) where
    needing_joined : (c : Crate) → Contains (dependents g place) c → HasEdgeFrom g place c.place
    unfolding dependents
    needing_joined c is = edge_found g c.place place (Contains-from_filter (λ (parent : Crate). list_any
        (leads parent.place place) g.edges) g.crates c is).1

    needing_kept : (c : Crate) → Contains g.crates c → HasEdgeFrom g place c.place → Contains (dependents g place) c
    unfolding dependents
    needing_kept c is edge = Contains-filter
        (λ (parent : Crate). list_any (leads parent.place place) g.edges) g.crates c is
        (found_edge g c.place place edge)

    pub each_needing : (n : ℕ) → HasEdgeFrom g place n ↔ Contains (map (λ (d : DirectDependent). d.place) ds) n
    each_needing = each_joined g placed (HasEdgeFrom g place)
        (dependents g place) ds (dependent_holds g place) needing_joined needing_kept needing_within are.whole are.sound

    pub few_needing : length ds ≤ length (dependents g place)
    few_needing = few_joined g placed (HasEdgeFrom g place)
        (dependents g place) ds (dependent_holds g place) needing_joined needing_kept needing_within are.whole are.sound
        are.ascending
