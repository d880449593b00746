-- Chains of steps from crates that execute at build time are lists of dependents, reversed.
use Rattle.std.proofs.Common.{◌≡◌, ◌<◌, ◌≤◌, ◌+◌, ◌∙◌, ◌++◌, ℕ, zero, suc, List, [], ◌∷◌, Bool, true, Option, Contains}
use Rattle.std.proofs.Common.{length, map, refl, sym, ap, subst, arith}
use Rattle.std.specs.Prelude.{All, filter, is_some, sum_by}
use Rattle.std.specs.List.{list_any}
use Rattle.std.proofs.lemmas.List.{length-map}
use Rattle.std.proofs.lemmas.List.Sums.{sum_by-cons}
use Rattle.std.proofs.lemmas.List.Elements.{All-weaker, All-contains_itself}
use Rattle.deny_base_lists.specs.Walk as walk
use Rattle.deny_base_lists.proofs.Members.{Contains-filter, Contains-from_filter, Contains-from_map, contains_map}
use Rattle.deny_base_lists.proofs.Members.{from_there}
use Rattle.deny_base_lists.proofs.WalkLemmas.{chain_more, marks_of_distances, reached_below}
use Rattle.deny_krates.specs.Orderly.{IsOrderly}
use Rattle.deny_spec.specs.Graph.{Crate, Graph, dependencies, dependents, leads}
use Rattle.deny_krates_reach.specs.Reached.{AreDependentsInTurn, AreReached, IsReached, executes_at_build_time}
use Rattle.deny_krates_reach.specs.Reached.{last_from}
use Rattle.deny_krates_reach.specs.Reached.{pair_count}
use Rattle.deny_krates_reach.specs.private.Executing.{places_executing}
use Rattle.deny_krates.specs.Steps.{HasEdge}
use Rattle.deny_krates.proofs.NeighbourLemmas.{edge_found, edges_stay, found_edge}
use Rattle.deny_krates.specs.Placed.{ArePlaced}
use Rattle.deny_krates.proofs.PlaceLemmas.{one_place, place_of, place_within, holds_at}
use Rattle.deny_krates_reach.proofs.StepLemmas.{steps_within}

-- one dependent more at the end
in_turn_more : (g : Graph) (c : Crate) (ds : List Crate) (r : Crate) → AreDependentsInTurn g c ds
    → Contains (dependents g (last_from c ds).place) r → AreDependentsInTurn g c (ds ++ r ∷ [])
in_turn_more g c [] r turn next = (next, _)
in_turn_more g c (d ∷ ds) r turn next = (turn.0, in_turn_more g d ds r turn.1 next)

last_more : (c : Crate) (ds : List Crate) (r : Crate) → last_from c (ds ++ r ∷ []) ≡ r
last_more c [] r = refl
last_more c (d ∷ ds) r = last_more d ds r

-- an edge leads from a dependent
dependent_found : (g : Graph) (place : ℕ) (d : Crate) → Contains (dependents g place) d
    → Contains g.crates d × HasEdge g d.place place
unfolding dependents
dependent_found g place d is =
    let found = Contains-from_filter (λ (parent : Crate). list_any (leads parent.place place) g.edges) g.crates d is in
    (found.0, edge_found g d.place place found.1)

found_dependent : (g : Graph) (place : ℕ) (d : Crate) → Contains g.crates d → HasEdge g d.place place
    → Contains (dependents g place) d
unfolding dependents
found_dependent g place d is edge = Contains-filter
    (λ (parent : Crate). list_any (leads parent.place place) g.edges) g.crates d is (found_edge g d.place place edge)

-- dependents in turn, from a crate to one
record Climbs (g : Graph) (c r : Crate) : Type 0 where
  pub above : List Crate
  pub in_turn : AreDependentsInTurn g c above
  pub ends : last_from c above ≡ r

-- steps from a crate to another, the last of its dependents
record Descends (g : Graph) (c : Crate) (ds : List Crate) : Type 0 where
  pub steps : ℕ
  pub holds : Contains g.crates (last_from c ds)
  pub chain : walk.Chain (HasEdge g) (last_from c ds).place c.place steps

module _ (g : Graph) (placed : ArePlaced g.crates) (orderly : IsOrderly g) where
  climb_over : (c d r : Crate) → Contains (dependents g d.place) r → Climbs g c d → Climbs g c r
  climb_over c d r next so_far = record {
    above = so_far.above ++ r ∷ [];
    in_turn = in_turn_more g c so_far.above r so_far.in_turn
        (subst (λ (last : Crate). Contains (dependents g last.place) r) (sym so_far.ends) next);
    ends = last_more c so_far.above r;
  }

  climb : (n a : ℕ) (r c : Crate) → Contains g.crates r → Contains g.crates c → r.place ≡ a
      → walk.Chain (HasEdge g) a c.place n → Climbs g c r
  climb zero a r c r_holds c_holds at chain = record {
    above = [];
    in_turn = _;
    ends = one_place g.crates placed c r c_holds r_holds (sym (at ∙ chain));
  }
  climb (suc n) a r c r_holds c_holds at chain =
      let next = chain.0 in
      let inside : next < length g.crates =
      edges_stay g orderly a next (subst (λ (m : ℕ). m < length g.crates) at (place_within g.crates placed r r_holds))
      chain.1 in
      let d = holds_at g.crates placed next inside in
      let d_holds = from_there g.crates next d.0 d.1 in
      let from : HasEdge g r.place next = subst (λ (m : ℕ). HasEdge g m next) (sym at) chain.1 in
      let edge : HasEdge g r.place d.0.place = subst (HasEdge g r.place) (sym d.2) from in
      climb_over c d.0 r (found_dependent g d.0.place r r_holds edge)
      (climb n next d.0 c d_holds c_holds d.2 chain.2)

  descend : (ds : List Crate) (c : Crate) → Contains g.crates c → AreDependentsInTurn g c ds → Descends g c ds
  descend [] c holds turn = record { steps = 0; holds = holds; chain = refl }
  descend (d ∷ ds) c holds turn =
      let found = dependent_found g c.place d turn.0 in
      let above = descend ds d found.0 turn.1 in
      record {
        steps = suc above.steps;
        holds = above.holds;
        chain = chain_more (HasEdge g) (last_from d ds).place d.place c.place above.steps above.chain found.1;
      }

  -- a crate is reached from those that execute where dependents lead to one of them
  reached_up : (c : Crate) → Contains g.crates c → walk.IsReached (HasEdge g) (places_executing g.crates) c.place
      → IsReached g c
  reached_up c holds there =
      let root = Contains-from_map place_of (filter executes_at_build_time g.crates) there.led.root there.led.is_root in
      let starts = Contains-from_filter executes_at_build_time g.crates root.from root.member in
      let up = climb there.steps there.led.root root.from c starts.0 holds root.is there.led.chain in
      record {
        above = up.above;
        in_turn = up.in_turn;
        ends = subst (λ (last : Crate). executes_at_build_time last ≡ true) (sym up.ends) starts.1;
      }

  reached_down : (c : Crate) → Contains g.crates c → IsReached g c
      → walk.IsReached (HasEdge g) (places_executing g.crates) c.place
  reached_down c holds reached =
      let down = descend reached.above c holds reached.in_turn in
      let last = last_from c reached.above in
      record {
        steps = down.steps;
        led = record {
          root = last.place;
          is_root = contains_map place_of (filter executes_at_build_time g.crates) last
              (Contains-filter executes_at_build_time g.crates last down.holds reached.ends);
          chain = down.chain;
        };
      }

  are_reached : (marks : List Bool)
      → walk.AreMarks (HasEdge g) (length g.crates) (places_executing g.crates) marks → AreReached g marks
  are_reached marks are = record {
    long = are.long;
    each = λ c holds. (
      λ is. reached_up c holds ((are.each c.place).0 is),
      λ reached. (are.each c.place).1 (reached_down c holds reached),
    );
  }

  -- a walk starts within the crates
  pub starts_inside : All (λ place. place < length g.crates) (places_executing g.crates)
  starts_inside = All-weaker (Contains (places_executing g.crates)) (λ place. place < length g.crates)
      (λ place is.
      let root = Contains-from_map place_of (filter executes_at_build_time g.crates) place is in
      let starts = Contains-from_filter executes_at_build_time g.crates root.from root.member in
      subst (λ (m : ℕ). m < length g.crates) root.is (place_within g.crates placed root.from starts.0))
      (places_executing g.crates) (All-contains_itself (places_executing g.crates))

  -- the marks of a walk, by the distances that it sets
  pub marked : (roots : List ℕ) (ds shown : List (Option ℕ)) (marks items : List Bool)
      → roots ≡ places_executing g.crates → walk.AreDistances (HasEdge g) (length g.crates) roots ds → shown ≡ ds
      → marks ≡ map is_some shown → items ≡ marks → AreReached g items
  marked roots ds shown marks items starts are seen marked_by held =
      let distances = subst (λ (rs : List ℕ). walk.AreDistances (HasEdge g) (length g.crates) rs ds) starts are in
      are_reached items (marks_of_distances (HasEdge g) (length g.crates) (places_executing g.crates) ds items
      (edges_stay g orderly) starts_inside distances (held ∙ (marked_by ∙ ap (map is_some) seen)))

  -- a walk takes each crate, and each pair of a parent and a child, at most once
  pub walk_within : (roots : List ℕ) (before after : ℕ) → roots ≡ places_executing g.crates
      → walk.TakesInStepWithReached (HasEdge g) roots (λ place. length (dependencies g place)) before after
      → after ≤ before + length g.crates + pair_count g
  walk_within roots before after starts taken =
      let takes = subst (λ (rs : List ℕ). walk.TakesInStepWithReached (HasEdge g) rs
      (λ place. length (dependencies g place)) before after) starts taken in
      let all = map place_of g.crates in
      let degree : ℕ → ℕ = λ place. length (dependencies g place) in
      let within = steps_within (HasEdge g) (places_executing g.crates) degree all before after takes place_listed in
      omega (arith, within, length-map g.crates place_of, sum_by_place g.crates degree)
    where
      place_listed : (place : ℕ) → walk.IsReached (HasEdge g) (places_executing g.crates) place
          → Contains (map place_of g.crates) place
      place_listed place there =
          let inside = reached_below (HasEdge g) (length g.crates) (places_executing g.crates) (edges_stay g orderly)
          starts_inside place there in
          let c = holds_at g.crates placed place inside in
          subst (Contains (map place_of g.crates)) c.2
          (contains_map place_of g.crates c.0 (from_there g.crates place c.0 c.1))

      sum_by_place : (cs : List Crate) (degree : ℕ → ℕ)
          → sum_by degree (map place_of cs) ≡ sum_by (λ (c : Crate). degree c.place) cs
      sum_by_place [] degree = refl
      sum_by_place (c ∷ cs) degree = sum_by-cons degree c.place (map place_of cs)
          ∙ (ap (λ (n : ℕ). degree c.place + n) (sum_by_place cs degree)
          ∙ sym (sum_by-cons (λ (d : Crate). degree d.place) c cs))
