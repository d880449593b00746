-- The graph of kept packages is orderly.
use Rattle.std.proofs.Common.{◌≡◌, ◌<◌, ◌+◌, ℕ, zero, suc, inl, inr, List, [], ◌∷◌, Bool, false, Some, Ok, length, map}
use Rattle.std.proofs.Common.{refl, sym, ap, ◌∙◌, subst, arith}
use Rattle.std.specs.Prelude.{All, Contains, slice_get, slice_index_or}
use Rattle.std.proofs.lemmas.Bool.{cases_lt}
use Rattle.std.specs.Cmp.Lexicographic.{slice_cmp}
use Rattle.std.specs.List.{AllZip}
use Rattle.std.specs.List.Sorted.{IsSortedByKey, IsStrictlySortedBy}
use Rattle.std.specs.Option.{option_map_or}
use Rattle.std.specs.Ordering.{is_lt, nat_cmp}
use Rattle.std.proofs.lemmas.Option.{none-some, slice_get_within, slice_get-get_or, same_Some}
use Rattle.deny_base_lists.specs.Ascending.{Lists}
use Rattle.deny_base.specs.Edge.{edge_cmp}
use Rattle.deny_base.specs.declared.edge.Edge.{Edge}
use Rattle.deny_spec.specs.Graph.{Crate, Graph}
use Rattle.deny_spec.specs.TargetEdge.{edge_of, target_edge_cmp}
use Rattle.deny_krates_sources.specs.Checked.{distinct, node_ids}
use Rattle.deny_krates_graph.specs.Crates.{crate_view, crates_from, graph_of}
use Rattle.deny_krates_graph.specs.private.Direct.{AreApart, id_in}
use Rattle.deny_krates_graph.specs.private.Graph.{IsInverse, IsKrateOf, edges_from, features_at, listed, place_at}
use Rattle.deny_krates_graph.specs.Listed.{AreCratesAt, IsEnabled}
use Rattle.deny_krates_graph.specs.private.Numbered.{HasVersion, IsNumbered}
use Rattle.deny_krates_graph.specs.Orderly.{IsOrderly}
use Rattle.deny_krates_graph.specs.Packages.{package_cmp}
use Rattle.deny_krates_graph.specs.Read.{IsEdge, IsGraph, IsMember}
use Rattle.deny_krates_sources.specs.declared.checked.ResolvedNode.{ResolvedNode}
use Rattle.deny_krates_metadata.specs.declared.document.Document.{Document}
use Rattle.deny_krates_metadata.specs.declared.node.MetadataNode.{MetadataNode}
use Rattle.deny_krates_metadata.specs.declared.package.MetadataPackage.{MetadataPackage}
use Rattle.deny_krates_graph.specs.declared.graph.KeptPackage.{KeptPackage}
use Rattle.deny_krates_graph.specs.declared.krate.Krate.{Krate}
use Rattle.deny_krates_graph.proofs.CrateOrderLemmas.{crates_ascend, features_ascend}
use Rattle.deny_krates_graph.proofs.GraphIs.{are_crates, are_edges, are_members, are_target_edges, ids_apart, kept_id}
use Rattle.deny_base_lists.proofs.Orders.{below_or_tie, not_less}
use Rattle.deny_base_lists.proofs.Members.{from_map_at, from_there, map_at, one_there, there}
use Rattle.deny_base_lists.proofs.Sorted.{ascends_at}
use Rattle.deny_krates_graph.proofs.ResolvedLemmas.{IsAt, apart}
use Rattle.deny_krates_graph.proofs.CratesLemmas.{length-crates_from}
use Rattle.deny_spec.specs.declared.target_edge.TargetEdge.{TargetEdge}

-- the features of a node are those that its id enables
enabled_of : (doc : Document) (n : ℕ) (id : List ℕ) (node : MetadataNode) (fs : List (List ℕ))
    → distinct (node_ids doc) ≡ Ok tt
    → IsAt doc n id → slice_get doc.nodes n ≡ Some node → node.id ≡ id
    → Lists (slice_cmp nat_cmp) (Contains (features_at doc.nodes n)) fs
    → Lists (slice_cmp nat_cmp) (IsEnabled doc id) fs
enabled_of doc n id node fs distinct_ids at here named lists = record {
  ascending = lists.ascending;
  whole = λ f is. lists.whole f (features_there f is);
  sound = λ f holds. record {
    node = node;
    holds = from_there doc.nodes n node here;
    owner = named;
    named = subst (λ (gs : List (List ℕ)). Contains gs f) features (lists.sound f holds);
  };
}
  where
    features : features_at doc.nodes n ≡ node.features
    features = ap (λ o. option_map_or (λ (m : MetadataNode). m.features) o []) here

    features_there : (f : List ℕ) → IsEnabled doc id f → Contains (features_at doc.nodes n) f
    features_there f is =
        let place = there doc.nodes is.node is.holds in
        let same : place.0 ≡ n = apart (node_ids doc) place.0 n id distinct_ids
        (subst (λ (t : List ℕ). slice_get (node_ids doc) place.0 ≡ Some t) is.owner
        (map_at (λ (m : MetadataNode). m.id) doc.nodes place.0 is.node place.1)) at in
        let one : is.node ≡ node = one_there doc.nodes n is.node node
        (subst (λ (m : ℕ). slice_get doc.nodes m ≡ Some is.node) same place.1) here in
        subst (λ (gs : List (List ℕ)). Contains gs f)
        (ap (λ (m : MetadataNode). m.features) one ∙ sym features) is.named

enabled_are : (doc : Document) (n : ℕ) (id : List ℕ) (fs : List (List ℕ)) → distinct (node_ids doc) ≡ Ok tt
    → IsAt doc n id
    → Lists (slice_cmp nat_cmp) (Contains (features_at doc.nodes n)) fs
    → Lists (slice_cmp nat_cmp) (IsEnabled doc id) fs
enabled_are doc n id fs distinct_ids at lists =
    let node = from_map_at (λ (m : MetadataNode). m.id) doc.nodes n id at in
    enabled_of doc n id node.0 fs distinct_ids at node.1 node.2 lists

-- the crates of kept packages
crates_are : (doc : Document) (first : ℕ) (kept : List KeptPackage) (krates : List Krate)
    → distinct (node_ids doc) ≡ Ok tt
    → ((k : KeptPackage) → Contains kept k → IsAt doc k.node (listed doc.packages k).id)
    → AllZip (IsKrateOf doc.packages doc.nodes) kept krates
    → AreCratesAt doc first (map (listed doc.packages) kept) (crates_from first krates)
crates_are doc first [] [] distinct_ids ids zip = tt
crates_are doc first [] (x ∷ krates) distinct_ids ids zip = absurd zip
crates_are doc first (k ∷ kept) [] distinct_ids ids zip = absurd zip
crates_are doc first (k ∷ kept) (x ∷ krates) distinct_ids ids zip = (
  record {
    is = ap (λ (c : Crate). record c { place = first }) zip.0.is;
    enabled = enabled_are doc k.node (listed doc.packages k).id x.enabled distinct_ids
        (ids k (from_there (k ∷ kept) 0 k refl)) zip.0.enabled;
  },
  crates_are doc (first + 1) kept krates distinct_ids
      (λ l is. ids l (from_there (k ∷ kept) (suc (there kept l is).0) l (there kept l is).1)) zip.1,
)

pub crate_of : (doc : Document) (first : ℕ) (ps : List MetadataPackage) (cs : List Crate) (place : ℕ) (c : Crate)
    → AreCratesAt doc first ps cs → slice_get cs place ≡ Some c
    → (p : MetadataPackage) × (slice_get ps place ≡ Some p) × (c.name ≡ p.name) × (c.id ≡ p.id)
crate_of doc first [] [] place c are at = absurd (none-some c at)
crate_of doc first [] (x ∷ cs) place c are at = absurd are
crate_of doc first (p ∷ ps) [] place c are at = absurd are
crate_of doc first (p ∷ ps) (x ∷ cs) zero c are at =
    let same = same_Some x c at in (
      p,
      refl,
      sym (ap (λ (y : Crate). y.name) same) ∙ ap (λ (y : Crate). y.name) are.0.is,
      sym
          (ap (λ (y : Crate). y.id) same) ∙ ap (λ (y : Crate). y.id) are.0.is,
    )
crate_of doc first (p ∷ ps) (x ∷ cs) (suc place) c are at = crate_of doc (first + 1) ps cs place c are.1 at

length-crates_at : (doc : Document) (first : ℕ) (ps : List MetadataPackage) (cs : List Crate)
    → AreCratesAt doc first ps cs
    → length cs ≡ length ps
length-crates_at doc first [] [] are = refl
length-crates_at doc first [] (c ∷ cs) are = absurd are
length-crates_at doc first (p ∷ ps) [] are = absurd are
length-crates_at doc first (p ∷ ps) (c ∷ cs) are = ap suc (length-crates_at doc (first + 1) ps cs are.1)

-- crates ascend by name
names_ascend : (doc : Document) (ps : List MetadataPackage) (cs : List Crate) → AreCratesAt doc 0 ps cs
    → IsStrictlySortedBy package_cmp ps → IsSortedByKey (λ c. c.name) (slice_cmp nat_cmp) cs
names_ascend doc ps cs are up k d low inside =
    let here = crate_of doc 0 ps cs k (slice_index_or cs k d) are (slice_get-get_or cs k d (omega (arith, inside))) in
    let next = crate_of doc 0 ps cs (k + 1) (slice_index_or cs (k + 1) d) are
    (slice_get-get_or cs (k + 1) d (omega (arith, inside))) in
    let below = below_or_tie (slice_cmp nat_cmp here.0.name next.0.name) _
    (ascends_at package_cmp ps k (k + 1) here.0 next.0 up (omega arith) here.1 next.1) in
    rw (here.2, next.2) (not_less here.0.name next.0.name below)

name_at : (first : ℕ) (ks : List Krate) (k : ℕ) (d : Krate) (c : Crate) → k < length ks
    → (slice_index_or (crates_from first ks) k c).name ≡ (slice_index_or ks k d).name
name_at first [] k d c inside = absurd (omega (arith, inside))
name_at first (x ∷ ks) zero d c inside = refl
name_at first (x ∷ ks) (suc k) d c inside = name_at (first + 1) ks k d c (omega (arith, inside))

krates_ascend : (ks : List Krate) → IsSortedByKey (λ c. c.name) (slice_cmp nat_cmp) (crates_from 0 ks)
    → length (crates_from 0 ks) ≡ length ks → IsSortedByKey (λ k. k.name) (slice_cmp nat_cmp) ks
krates_ascend ks up long k d low inside =
    let c = crate_view 0 d in
    let P : List ℕ → List ℕ → Type 0 = λ a b. is_lt (slice_cmp nat_cmp a b) ≡ false in
    subst (λ (t : List ℕ). P t (slice_index_or ks k d).name) (name_at 0 ks (k + 1) d c inside)
    (subst (λ (t : List ℕ). P (slice_index_or (crates_from 0 ks) (k + 1) c).name t)
    (name_at 0 ks k d c (omega (arith, inside))) (up k c low (omega (arith, inside, long))))

-- a graph of members and edges between these crates is orderly
is_orderly : (doc : Document) (ps : List MetadataPackage) (g : Graph) → AreCratesAt doc 0 ps g.crates
    → ((p : MetadataPackage) → Contains ps p → HasVersion p) → IsStrictlySortedBy package_cmp ps
    → ((i j : ℕ) (p q : MetadataPackage) → i < j → slice_get ps i ≡ Some p → slice_get ps j ≡ Some q → p.id ≡ q.id → ⊥)
    → Lists nat_cmp (IsMember doc ps) g.members → Lists edge_cmp (IsEdge doc ps) g.edges
    → IsStrictlySortedBy target_edge_cmp g.target_edges
    → Lists edge_cmp (Contains (map edge_of g.target_edges)) g.edges → IsOrderly g
is_orderly doc ps g crates versions up apart_ids members edges targeted_ascend edges_are = record {
  crates = crates_ascend doc 0 ps g.crates versions crates up;
  names = names_ascend doc ps g.crates crates up;
  ids = λ i j d below inside same.
      let p = crate_at i d (omega (arith, below, inside)) in
      let q = crate_at j d inside in
      apart_ids i j p.0 q.0 below p.1 q.1 (sym p.3 ∙ (same ∙ q.3));
  enabled = λ k d inside.
      features_ascend doc 0 ps g.crates k (slice_index_or g.crates k d) crates (slice_get-get_or g.crates k d inside);
  members = λ k d inside. let is = member_at k d inside in place_inside (slice_index_or g.members k d) is.of is.holds;
  members_ascend = members.ascending;
  parents = λ k d inside.
      let is = edge_at k d inside in place_inside (slice_index_or g.edges k d).parent is.parent is.parent_holds;
  children = λ k d inside.
      let is = edge_at k d inside in place_inside (slice_index_or g.edges k d).child is.child is.child_holds;
  edges_ascend = edges.ascending;
  target_edges_ascend = targeted_ascend;
  edges_are = edges_are;
}
  where
    crate_at : (k : ℕ) (d : Crate) → k < length g.crates
        → (p : MetadataPackage) × (slice_get ps k ≡ Some p) × ((slice_index_or g.crates k d).name ≡ p.name)
        × ((slice_index_or g.crates k d).id ≡ p.id)
    crate_at k d inside =
        crate_of doc 0 ps g.crates k (slice_index_or g.crates k d) crates (slice_get-get_or g.crates k d inside)

    place_inside : (place : ℕ) (p : MetadataPackage) → slice_get ps place ≡ Some p → place < length g.crates
    place_inside place p holds =
        subst (λ (n : ℕ). place < n) (sym (length-crates_at doc 0 ps g.crates crates))
        (slice_get_within ps place p holds)

    member_at : (k d : ℕ) → k < length g.members → IsMember doc ps (slice_index_or g.members k d)
    member_at k d inside = members.sound _ (from_there g.members k _ (slice_get-get_or g.members k d inside))

    edge_at : (k : ℕ) (d : Edge) → k < length g.edges → IsEdge doc ps (slice_index_or g.edges k d)
    edge_at k d inside = edges.sound _ (from_there g.edges k _ (slice_get-get_or g.edges k d inside))

kept_crates : (doc : Document) (starts : List ℕ) (rows : List ResolvedNode) (marks : List Bool)
    (kept : List KeptPackage) (is : IsNumbered doc starts rows marks kept) (krates : List Krate)
    → AllZip (IsKrateOf doc.packages doc.nodes) kept krates
    → AreCratesAt doc 0 (map (listed doc.packages) kept) (crates_from 0 krates)
kept_crates doc starts rows marks kept is krates zip =
    crates_are doc 0 kept krates is.resolved.nodes
    (λ k holds. (kept_id doc starts rows marks kept is k (is.lists.sound k holds)).0) zip

-- the graph of the crates of kept packages is that of the metadata, and it is orderly
pub joined : (doc : Document) (starts : List ℕ) (rows : List ResolvedNode) (marks : List Bool) (kept : List KeptPackage)
    (is : IsNumbered doc starts rows marks kept)
    (places : List ℕ) (inverse : IsInverse (map (λ (k : KeptPackage). k.node) kept) (length rows) places)
    (members : List ℕ) → Lists nat_cmp (Contains (map (place_at places) starts)) members
    → (targeted : List TargetEdge) → Lists target_edge_cmp (Contains (edges_from rows places 0 kept)) targeted
    → (edges : List Edge) → Lists edge_cmp (Contains (map edge_of targeted)) edges
    → (root : List ℕ) (krates : List Krate) → root ≡ doc.workspace_root
    → AllZip (IsKrateOf doc.packages doc.nodes) kept krates
    → IsGraph doc (graph_of targeted root krates members edges)
joined doc starts rows marks kept is places inverse members m targeted t edges e root krates same zip = record {
  packages = map (listed doc.packages) kept;
  kept = are_crates doc starts rows marks kept is;
  root = same;
  crates = kept_crates doc starts rows marks kept is krates zip;
  members = are_members doc starts rows marks kept is places inverse members m;
  edges = are_edges doc (map (listed doc.packages) kept) targeted
      (are_target_edges doc starts rows marks kept is places inverse targeted t) edges e;
  target_edges = are_target_edges doc starts rows marks kept is places inverse targeted t;
}

pub joined_orderly : (doc : Document) (starts : List ℕ) (rows : List ResolvedNode) (marks : List Bool)
    (kept : List KeptPackage) (is : IsNumbered doc starts rows marks kept)
    (places : List ℕ) (inverse : IsInverse (map (λ (k : KeptPackage). k.node) kept) (length rows) places)
    (members : List ℕ) → Lists nat_cmp (Contains (map (place_at places) starts)) members
    → (targeted : List TargetEdge) → Lists target_edge_cmp (Contains (edges_from rows places 0 kept)) targeted
    → (edges : List Edge) → Lists edge_cmp (Contains (map edge_of targeted)) edges
    → (root : List ℕ) (krates : List Krate) → AllZip (IsKrateOf doc.packages doc.nodes) kept krates
    → IsOrderly (graph_of targeted root krates members edges)
joined_orderly doc starts rows marks kept is places inverse members m targeted t edges e root krates zip =
    is_orderly doc (map (listed doc.packages) kept) (graph_of targeted root krates members edges)
    (kept_crates doc starts rows marks kept is krates zip)
    (λ p holds. is.resolved.versions p ((are_crates doc starts rows marks kept is).sound p holds).holds)
    (are_crates doc starts rows marks kept is).ascending
    (ids_apart doc starts rows marks kept is) (are_members doc starts rows marks kept is places inverse members m)
    (are_edges doc (map (listed doc.packages) kept) targeted
    (are_target_edges doc starts rows marks kept is places inverse targeted t) edges e)
    t.ascending e

pub joined_names : (doc : Document) (starts : List ℕ) (rows : List ResolvedNode) (marks : List Bool)
    (kept : List KeptPackage) (is : IsNumbered doc starts rows marks kept) (krates : List Krate) → AllZip
    (IsKrateOf doc.packages doc.nodes) kept krates
    → IsSortedByKey (λ k. k.name) (slice_cmp nat_cmp) krates
joined_names doc starts rows marks kept is krates zip =
    krates_ascend krates (names_ascend doc (map (listed doc.packages) kept) (crates_from 0 krates)
    (kept_crates doc starts rows marks kept is krates zip) (are_crates doc starts rows marks kept is).ascending)
    (length-crates_from 0 krates)

-- ---- crates and edges of an orderly graph

pub parents_inside : (targeted : List TargetEdge) (root : List ℕ) (krates : List Krate) (members : List ℕ)
    (edges : List Edge)
    → IsOrderly (graph_of targeted root krates members edges) → All (λ e. e.parent < length krates) edges
parents_inside targeted root krates members edges is =
    subst (λ (n : ℕ). All (λ e. e.parent < n) edges) (length-crates_from 0 krates) is.parents

pub children_inside : (targeted : List TargetEdge) (root : List ℕ) (krates : List Krate) (members : List ℕ)
    (edges : List Edge)
    → IsOrderly (graph_of targeted root krates members edges) → All (λ e. e.child < length krates) edges
children_inside targeted root krates members edges is =
    subst (λ (n : ℕ). All (λ e. e.child < n) edges) (length-crates_from 0 krates) is.children

pub members_inside : (targeted : List TargetEdge) (root : List ℕ) (krates : List Krate) (members : List ℕ)
    (edges : List Edge)
    → IsOrderly (graph_of targeted root krates members edges) → All (λ place. place < length krates) members
members_inside targeted root krates members edges is =
    subst (λ (n : ℕ). All (λ place. place < n) members) (length-crates_from 0 krates) is.members

crate_id : (first : ℕ) (ks : List Krate) (p : ℕ) (c : Crate) → p < length ks
    → (slice_index_or (crates_from first ks) p c).id ≡ id_in ks p
crate_id first [] p c inside = absurd (omega (arith, inside))
crate_id first (k ∷ ks) zero c inside = refl
crate_id first (k ∷ ks) (suc p) c inside = crate_id (first + 1) ks p c (omega (arith, inside))

ids_of_places : (targeted : List TargetEdge) (root : List ℕ) (krates : List Krate) (members : List ℕ)
    (edges : List Edge)
    → IsOrderly (graph_of targeted root krates members edges) → (p q : ℕ) → p < length krates → q < length krates
    → id_in krates p ≡ id_in krates q → p ≡ q
ids_of_places targeted root [] members edges is p q a b same = absurd (omega (arith, a))
ids_of_places targeted root (k ∷ ks) members edges is p q a b same = elim (cases_lt p q) as (λ _. p ≡ q) [
  | inl below ↦ absurd (differ p q below b same)
  | inr not_below ↦ elim (cases_lt q p) as (λ _. p ≡ q) [
    | inl above ↦ absurd (differ q p above a (sym same))
    | inr not_above ↦ omega arith
  ]
]
  where
    differ : (m n : ℕ) → m < n → n < length (k ∷ ks) → id_in (k ∷ ks) m ≡ id_in (k ∷ ks) n → ⊥
    differ m n below inside e =
        let c = crate_view 0 k in
        is.ids m n c below (subst (λ (j : ℕ). n < j) (sym (length-crates_from 0 (k ∷ ks))) inside)
        (crate_id 0 (k ∷ ks) m c (omega (arith, below, inside)) ∙ (e ∙ sym (crate_id 0 (k ∷ ks) n c inside)))

pub apart_of : (targeted : List TargetEdge) (root : List ℕ) (krates : List Krate) (members : List ℕ) (edges : List Edge)
    → IsOrderly (graph_of targeted root krates members edges) → AreApart krates
apart_of targeted root krates members edges is = record { ids = ids_of_places targeted root krates members edges is }
