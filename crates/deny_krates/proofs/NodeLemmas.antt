-- Nodes, and their numbers in a graph that is kept.
use Rattle.std.proofs.Common.{◌≡◌, ◌<◌, ◌≤◌, ◌+◌, ◌-◌, ◌^◌, ◌∙◌, ℕ, List, [], ◌∷◌, true, false, Option, Some, None}
use Rattle.std.proofs.Common.{length, refl, sym, ap, subst, arith}
use Rattle.std.specs.Prelude.{All, cond, option_map, slice_get, slice_index_or, unwrap_or}
use Rattle.std.specs.Cmp.Lexicographic.{slice_cmp}
use Rattle.std.specs.List.{list_any}
use Rattle.std.specs.List.Sorted.{IsStrictlySortedBy}
use Rattle.std.specs.Option.{option_and_then, option_map_or}
use Rattle.std.specs.Ordering.{nat_cmp}
use Rattle.std.proofs.lemmas.List.Elements.{All-contains}
use Rattle.std.proofs.lemmas.Option.{none-some, same_Some, slice_get-get_or, slice_get_within}
use Rattle.std.proofs.lemmas.Slice.Eq.{bytes_eq-Decides}
use Rattle.deny_base_lists.proofs.Members.{any_from, from_there, some_at, there}
use Rattle.deny_base_lists.proofs.Finding.{found_member}
use Rattle.deny_base.specs.declared.edge.DepKind.{DepKind}
use Rattle.deny_krates_graph.specs.Bounds.{node_count}
use Rattle.deny_krates_graph.specs.Crates.{crate_view, crates_from}
use Rattle.deny_krates_graph.specs.Dependents.{id_at}
use Rattle.deny_krates_graph.specs.Ids.{crate_of}
use Rattle.deny_krates.specs.Nodes.{Incoming, Node, crate_node, feature_node, incoming_at, is_enabled, node_at, node_in}
use Rattle.deny_krates.specs.Nodes.{node_named, nodes_of}
use Rattle.deny_krates.specs.private.NodeNumbers.{IsLastUpTo, features_from, first_features_of}
use Rattle.deny_krates.specs.private.Sources.{node_here}
use Rattle.deny_krates_graph.specs.declared.krate.Krate.{Krate}
use Rattle.deny_krates.specs.declared.nodes.InEdge.{InEdge}
use Rattle.deny_krates.proofs.NumberLemmas.{HavePlaces, crate_node_at, feature_count, feature_inside, feature_node_at}
use Rattle.deny_krates.proofs.NumberLemmas.{length-first_features, length-nodes, node_count-is}
use Rattle.deny_krates.proofs.ResolutionLemmas.{crates-at}
use Rattle.deny_krates_graph.proofs.CratesLemmas.{length-crates_from}
use Rattle.deny_spec.specs.Graph.{Crate, Graph}
use Rattle.deny_spec.specs.Text.{same_text}

-- the node of a feature, by its crate, the last whose first feature is not above the node
pub record IsOwned (g : Graph) (n p start : ℕ) : Type 0 where
  pub krate : Crate
  pub feature : List ℕ
  pub at : slice_get g.crates p ≡ Some krate
  pub of : slice_get krate.enabled (n - start) ≡ Some feature
  pub is : node_at g n ≡ feature_node krate feature

pub read_start : (ns : List ℕ) (p s : ℕ) → slice_get ns p ≡ Some s → slice_index_or ns p 0 ≡ s
read_start ns p s at =
    same_Some (slice_index_or ns p 0) s (sym (slice_get-get_or ns p 0 (slice_get_within ns p s at)) ∙ at)

-- the feature of an owner at the index of a node
pub owner_features : (g : Graph) (n p start : ℕ) (owned : IsOwned g n p start) (k : Krate)
    → slice_get g.crates p ≡ Some (crate_view p k) → slice_get k.enabled (n - start) ≡ Some owned.feature
owner_features g n p start owned k at =
    subst (λ (c : Crate). slice_get c.enabled (n - start) ≡ Some owned.feature)
    (same_Some owned.krate (crate_view p k) (sym owned.at ∙ at)) owned.of

module _ (ks : List Krate) (g : Graph) (same : crates_from 0 ks ≡ g.crates) where
  pub as_many : length ks ≡ length g.crates
  as_many = sym (length-crates_from 0 ks) ∙ ap (λ (cs : List Crate). length cs) same

  pub crate_of_krate : (n : ℕ) (k : Krate) → slice_get ks n ≡ Some k → slice_get g.crates n ≡ Some (crate_view n k)
  crate_of_krate n k at =
      ap (λ (cs : List Crate). slice_get cs n) (sym same) ∙ (crates-at ks n ∙ ap (option_map (crate_view n)) at)

  -- the crate that `krates[n]` is
  pub crate_read : (n : ℕ) (k : Krate) → n < length ks → k ≡ slice_index_or ks n k
      → slice_get g.crates n ≡ Some (crate_view n k)
  crate_read n k inside is = crate_of_krate n k (slice_get-get_or ks n k inside ∙ ap (λ j. Some j) (sym is))

  pub placed : HavePlaces g
  placed = record {
    each = λ n c at. by_krate n c (slice_get ks n) (sym (crates-at ks n)
        ∙ (ap (λ (cs : List Crate). slice_get cs n) same ∙ at));
  }
    where
      by_krate : (n : ℕ) (c : Crate) (o : Option Krate) → option_map (crate_view n) o ≡ Some c → c.place ≡ n
      by_krate n c None is = absurd (none-some c is)
      by_krate n c (Some k) is = sym (ap (λ (x : Crate). x.place) (same_Some (crate_view n k) c is))

  pub node_of_crate : (n : ℕ) (c : Crate) → slice_get g.crates n ≡ Some c → node_at g n ≡ crate_node c
  unfolding node_at
  node_of_crate n c at = ap (λ o. unwrap_or o (record { place = 0; feature = None })) (crate_node_at g n c at)

  pub crate_node_of : (n : ℕ) → n < length ks → node_at g n ≡ record { place = n; feature = None }
  crate_node_of n inside =
      let k = some_at ks n inside in
      node_of_crate n (crate_view n k.0) (crate_of_krate n k.0 k.1)

  -- where a node is that of a feature, there is a first feature
  pub some_starts : (n : ℕ) → length ks ≤ n → n < length (nodes_of g) → 0 < length (first_features_of g)
  some_starts n past inside = by_crates g.crates as_many (omega (arith, past, inside, length-nodes g, as_many))
    where
      by_crates : (cs : List Crate) → length ks ≡ length cs → 0 < feature_count cs
          → 0 < length (features_from (length g.crates) cs)
      by_crates [] long some = absurd (omega (arith, some))
      by_crates (c ∷ cs) long some = omega arith

  pub first_start : (n : ℕ) → length ks ≤ n → slice_index_or (first_features_of g) 0 0 ≤ n
  first_start n past = by_crates g.crates
    where
      by_crates : (cs : List Crate) → slice_index_or (features_from (length g.crates) cs) 0 0 ≤ n
      by_crates [] = omega arith
      by_crates (c ∷ cs) = omega (arith, past, as_many)

  pub owned_feature : (n p : ℕ) (last : IsLastUpTo (first_features_of g) n p) → n < length (nodes_of g)
      → IsOwned g n p last.start
  unfolding node_at
  owned_feature n p last inside =
      let c = some_at g.crates p
      (omega (arith, slice_get_within (first_features_of g) p last.start last.here, length-first_features g)) in
      let f = some_at c.0.enabled (n - last.start) (feature_inside g n p c.0 last c.1 inside) in
      let number : last.start + (n - last.start) ≡ n = omega (arith, last.up_to) in
      record {
        krate = c.0;
        feature = f.0;
        at = c.1;
        of = f.1;
        is = ap (λ o. unwrap_or o (record { place = 0; feature = None }))
            (ap (slice_get (nodes_of g)) (sym number)
            ∙ feature_node_at g p last.start (n - last.start) c.0 f.0 c.1 f.1 last.here);
      }

  pub nodes_few : node_count g.crates < 2 ^ 32 → length (nodes_of g) < 2 ^ 32
  nodes_few few = omega (arith, few, length-nodes g, node_count-is g.crates)

  -- the node of an enabled feature, by its number
  pub number_of_feature : (p s j : ℕ) (k : Krate) (f : List ℕ) → slice_get ks p ≡ Some k
      → slice_get k.enabled j ≡ Some f → slice_get (first_features_of g) p ≡ Some s
      → slice_get (nodes_of g) (s + j) ≡ node_here g p (Some f)
  unfolding node_in is_enabled
  number_of_feature p s j k f at of start =
      let krate = crate_of_krate p k at in
      let enabled : list_any (same_text f) k.enabled ≡ true = any_from (same_text f) k.enabled f
      (from_there k.enabled j f of) ((bytes_eq-Decides f f).1 refl) in
      feature_node_at g p s j (crate_view p k) f krate of start
      ∙ sym (ap (option_and_then (node_in (Some f))) krate
      ∙ ap (λ b. cond b (Some (feature_node (crate_view p k) f)) None) enabled)

  pub no_feature : (p : ℕ) (k : Krate) (f : List ℕ) → slice_get ks p ≡ Some k
      → list_any (same_text f) k.enabled ≡ false → node_here g p (Some f) ≡ None
  unfolding node_in is_enabled
  no_feature p k f at off =
      ap (option_and_then (node_in (Some f))) (crate_of_krate p k at)
      ∙ ap (λ b. cond b (Some (feature_node (crate_view p k) f)) None) off

  pub enabled_ascend : All (λ c. IsStrictlySortedBy (slice_cmp nat_cmp) c.enabled) g.crates → (n : ℕ) (k : Krate)
      → slice_get ks n ≡ Some k → IsStrictlySortedBy (slice_cmp nat_cmp) k.enabled
  enabled_ascend ascend n k at = All-contains (λ (c : Crate). IsStrictlySortedBy (slice_cmp nat_cmp) c.enabled) g.crates
      (crate_view n k) ascend (from_there g.crates n (crate_view n k) (crate_of_krate n k at))

  pub feature_within : (p s j : ℕ) (k : Krate) (f : List ℕ) → slice_get ks p ≡ Some k → slice_get k.enabled j ≡ Some f
      → slice_get (first_features_of g) p ≡ Some s → s + j < length (nodes_of g)
  feature_within p s j k f at of start = slice_get_within (nodes_of g) (s + j) (feature_node (crate_view p k) f)
      (feature_node_at g p s j (crate_view p k) f (crate_of_krate p k at) of start)

-- the node of a crate, by its number
pub number_of_crate : (g : Graph) (n : ℕ) → n < length g.crates → slice_get (nodes_of g) n ≡ node_here g n None
unfolding node_in
number_of_crate g n inside =
    let c = some_at g.crates n inside in
    crate_node_at g n c.0 c.1 ∙ sym (ap (option_and_then (node_in None)) c.1)

pub crate_within : (g : Graph) (n : ℕ) → n < length g.crates → n < length (nodes_of g)
crate_within g n inside = omega (arith, inside, length-nodes g)

-- the node of an id and a feature, by the place of its crate
pub named_here : (g : Graph) (place : ℕ) (id : List ℕ) (feature : Option (List ℕ)) → HavePlaces g
    → Some place ≡ option_map (λ (c : Crate). c.place) (crate_of g id)
    → (node_here g place feature ≡ node_named g id feature) × (place < length g.crates)
unfolding node_named
named_here g place id feature placed is = by_crate (crate_of g id) refl is
  where
    by_crate : (o : Option Crate) → crate_of g id ≡ o → Some place ≡ option_map (λ (c : Crate). c.place) o
        → (node_here g place feature ≡ option_and_then (node_in feature) (crate_of g id)) × (place < length g.crates)
    by_crate None found is = absurd (none-some place (sym is))
    by_crate (Some c) found is =
        let at = there g.crates c (found_member (λ (d : Crate). same_text d.id id) g.crates c found) in
        let place_is : at.0 ≡ place = sym (placed.each at.0 c at.1) ∙ same_Some c.place place (sym is) in
        let here : slice_get g.crates place ≡ Some c = subst (λ (n : ℕ). slice_get g.crates n ≡ Some c) place_is at.1 in
        (ap (option_and_then (node_in feature)) (here ∙ sym found), slice_get_within g.crates place c here)

pub not_named : (g : Graph) (id : List ℕ) (feature : Option (List ℕ))
    → None ≡ option_map (λ (c : Crate). c.place) (crate_of g id) → node_named g id feature ≡ None
unfolding node_named
not_named g id feature is = by_crate (crate_of g id) is
  where
    by_crate : (o : Option Crate) → None ≡ option_map (λ (c : Crate). c.place) o
        → option_and_then (node_in feature) o ≡ None
    by_crate None is = refl
    by_crate (Some c) is = absurd (none-some c.place is)

-- the source of an edge from the node of a number
pub incoming_of : (g : Graph) (e : InEdge) (i : Incoming) → slice_get (nodes_of g) e.node.0 ≡ Some i.node
    → e.kind ≡ i.kind → incoming_at g e ≡ i
unfolding node_at
incoming_of g e i at kind =
    let node : node_at g e.node.0 ≡ i.node = ap (λ o. unwrap_or o (record { place = 0; feature = None })) at in
    ap (λ (n : Node). incoming_from n e.kind) node ∙ ap (incoming_from i.node) kind
  where
    incoming_from : Node → Option DepKind → Incoming
    incoming_from n k = record { node = n; kind = k }

-- the id at the place of a crate
pub id_of_place : (g : Graph) (n : ℕ) (c : Crate) → HavePlaces g → slice_get g.crates n ≡ Some c
    → id_at g c.place ≡ c.id
id_of_place g n c placed at =
    ap (id_at g) (placed.each n c at) ∙ ap (λ o. option_map_or (λ (x : Crate). x.id) o []) at
