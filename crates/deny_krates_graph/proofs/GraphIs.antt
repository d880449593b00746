-- The graph that is built from numbers is the graph of the metadata.
use Rattle.deny_base_lists.proofs.Orders.{not_below_itself, then_below}
use Rattle.std.proofs.Common.{◌≡◌, ◌⊎◌, ◌<◌, ◌+◌, ℕ, zero, suc, inl, inr, List, [], ◌∷◌, Bool, Option, Some, length}
use Rattle.std.proofs.Common.{map, refl, sym, ap, ◌∙◌, subst, arith, add-zero}
use Rattle.std.specs.Prelude.{◌≢◌, All, AllPairs, Contains, slice_get, slice_index_or}
use Rattle.std.specs.Ordering.{nat_cmp}
use Rattle.std.specs.declared.cmp.Ordering.TheVariants.{Less}
use Rattle.std.proofs.lemmas.List.Elements.{Contains-append_cases, Contains-append_left, Contains-append_right}
use Rattle.std.proofs.lemmas.Option.{none-some, slice_get_within, slice_get-get_or, same_Some}
use Rattle.deny_base_lists.specs.Ascending.{Lists}
use Rattle.deny_base.specs.Edge.{edge_cmp}
use Rattle.deny_base.specs.declared.edge.DepKind.{DepKind}
use Rattle.deny_base.specs.declared.edge.Edge.{Edge}
use Rattle.deny_krates_sources.specs.Checked.{node_ids}
use Rattle.deny_krates_graph.specs.private.Graph.{IsInverse}
use Rattle.deny_krates_graph.specs.private.Graph.{IsKeptNode, edge_to, edges_from, kept_cmp, listed, no_package}
use Rattle.deny_krates_graph.specs.private.Graph.{place_at}
use Rattle.deny_krates_graph.specs.private.Numbered.{IsNumbered}
use Rattle.deny_krates_graph.specs.Packages.{package_cmp, rank_cmp, rank_of}
use Rattle.deny_krates_graph.specs.private.Reach.{Reaches, from_start, by_link, links_at}
use Rattle.deny_krates_graph.specs.Read.{IsCrate, IsEdge, IsMember, IsReached, IsTargetEdge, NeedsFor}
use Rattle.deny_krates_sources.specs.declared.checked.Link.{Link}
use Rattle.deny_krates_sources.specs.declared.checked.ResolvedNode.{ResolvedNode}
use Rattle.deny_krates_metadata.specs.declared.document.Document.{Document}
use Rattle.deny_krates_metadata.specs.declared.node.NeededAs.{NeededAs}
use Rattle.deny_spec.specs.TargetEdge.{edge_of, target_edge_cmp}
use Rattle.deny_krates_metadata.specs.declared.package.MetadataPackage.{MetadataPackage}
use Rattle.deny_krates_graph.specs.declared.graph.KeptPackage.{KeptPackage}
use Rattle.deny_krates_graph.specs.declared.graph.Rank.{Rank}
use Rattle.deny_krates_graph.proofs.GraphLemmas.{listed_is, one_kept}
use Rattle.deny_base_lists.proofs.Members.{contains_map, from_contains_map, from_map_at, from_there, map_at, one_there}
use Rattle.deny_base_lists.proofs.Members.{there}
use Rattle.deny_base_lists.proofs.Sorted.{ascends_at, ascends_map}
use Rattle.deny_base_lists.proofs.Equalities.{subst₃}
use Rattle.deny_krates_graph.proofs.OrderLemmas.{kept_cmp-total, rank_cmp-exact}
use Rattle.deny_krates_graph.proofs.ResolvedLemmas.{
  IsAt,
  apart,
  link_needs,
  linked_row,
  member_is,
  need_links,
  needs_for,
}
use Rattle.deny_krates_graph.proofs.ResolvedLemmas.{needs_of, node_at, owner_at, reached_id, reached_number, row_is}
use Rattle.deny_krates_graph.proofs.ResolvedLemmas.{row_of_node, start_is}
use Rattle.deny_spec.specs.declared.target_edge.TargetEdge.{TargetEdge}

module _ (doc : Document) (starting : List ℕ) (rows : List ResolvedNode) (marks : List Bool) (kept : List KeptPackage)
    (is : IsNumbered doc starting rows marks kept) where
  -- a kept package has the id of its node, and is reached
  pub kept_id : (k : KeptPackage) → IsKeptNode doc.packages rows marks k
      → IsAt doc k.node (listed doc.packages k).id × IsReached doc (listed doc.packages k).id
  kept_id k holds =
      let row = row_is doc starting rows k.node holds.row is.resolved holds.at in
      let owner = owner_at doc k.node holds.row row in
      let same : (listed doc.packages k).id ≡ row.node.id = ap (λ (p : MetadataPackage). p.id)
      (one_there doc.packages holds.row.owner (listed doc.packages k) owner.0 holds.holds owner.1) ∙ owner.2 in
      let at : IsAt doc k.node (listed doc.packages k).id = subst (λ (t : List ℕ). IsAt doc k.node t) (sym same)
      (node_at doc k.node row.node row.at) in
      let reached = reached_id doc starting rows k.node is.resolved (is.reached.sound k.node holds.marked) in (
        at,
        subst (λ (t : List ℕ). IsReached doc t)
            (one_there (node_ids doc) k.node reached.0 (listed doc.packages k).id reached.1 at) reached.2,
      )

  -- a reached node is kept
  kept_at : (n : ℕ) → Reaches rows starting n
      → (place : ℕ) × (k : KeptPackage) × (slice_get kept place ≡ Some k) × (k.node ≡ n) × IsKeptNode doc.packages rows
      marks k
  kept_at n reached =
      let id = reached_id doc starting rows n is.resolved reached in
      let node = from_map_at (λ m. m.id) doc.nodes n id.0 id.1 in
      let row = row_of_node doc starting rows n node.0 is.resolved node.1 in
      let owner = owner_at doc n row.0 (record { node = node.0; at = node.1; reads = row.2 }) in
      let k : KeptPackage = record { rank = rank_of owner.0; owner = row.0.owner; node = n } in
      let of : listed doc.packages k ≡ owner.0 = listed_is doc.packages k owner.0 owner.1 in
      let holds : IsKeptNode doc.packages rows marks k = record {
        row = row.0;
        at = row.1;
        marked = is.reached.whole n reached;
        owner = refl;
        holds = subst (λ (p : MetadataPackage). slice_get doc.packages row.0.owner ≡ Some p) (sym of) owner.1;
        ranked = ap rank_of (sym of);
      } in
      let place = there kept k (is.lists.whole k holds) in
      (place.0, k, place.1, refl, holds)

  -- kept packages with one id have one node
  same_node : (k l : KeptPackage) → IsKeptNode doc.packages rows marks k → IsKeptNode doc.packages rows marks l
      → (listed doc.packages k).id ≡ (listed doc.packages l).id → k.node ≡ l.node
  same_node k l a b same = apart (node_ids doc) k.node l.node (listed doc.packages l).id is.resolved.nodes
      (subst (λ (t : List ℕ). IsAt doc k.node t) same (kept_id k a).0) (kept_id l b).0

  -- the kept packages are the crates
  pub are_crates : Lists package_cmp (IsCrate doc) (map (listed doc.packages) kept)
  are_crates = record {
    ascending = ascends_map kept_cmp package_cmp (listed doc.packages) (IsKeptNode doc.packages rows marks) kept mirrors
        is.lists.sound is.lists.ascending;
    whole = λ p holds.
        let number = reached_number doc starting rows p.id is.resolved holds.reached in
        let k = kept_at number.0 number.2 in
        let at_listed = there doc.packages p holds.holds in
        let id : (listed doc.packages k.1).id ≡ p.id = one_there (node_ids doc) number.0 (listed doc.packages k.1).id
        p.id (subst (λ (n : ℕ). IsAt doc n (listed doc.packages k.1).id) k.3 (kept_id k.1 k.4).0) number.1 in
        let place : k.4.row.owner ≡ at_listed.0 = apart (map (λ (q : MetadataPackage). q.id) doc.packages) k.4.row.owner
        at_listed.0 p.id is.resolved.packages
        (subst (λ (t : List ℕ). slice_get (map (λ (q : MetadataPackage). q.id) doc.packages) k.4.row.owner ≡ Some t) id
        (map_at (λ (q : MetadataPackage). q.id) doc.packages k.4.row.owner (listed doc.packages k.1) k.4.holds))
        (map_at (λ (q : MetadataPackage). q.id) doc.packages at_listed.0 p at_listed.1) in
        let same : (listed doc.packages k.1) ≡ p = one_there doc.packages at_listed.0 (listed doc.packages k.1) p
        (subst (λ (n : ℕ). slice_get doc.packages n ≡ Some (listed doc.packages k.1)) place k.4.holds) at_listed.1 in
        subst (λ (q : MetadataPackage). Contains (map (listed doc.packages) kept) q) same
        (contains_map (listed doc.packages) kept k.1 (from_there kept k.0 k.1 k.2));
    sound = λ p holds.
        let from = from_contains_map (listed doc.packages) kept p holds in
        let k = is.lists.sound from.0 from.1 in
        subst (λ (q : MetadataPackage). IsCrate doc q) from.2
        (record {
          holds = from_there doc.packages k.row.owner (listed doc.packages from.0) k.holds;
          reached = (kept_id from.0 k).1;
        });
  }
    where
      mirrors : (k l : KeptPackage) → IsKeptNode doc.packages rows marks k → IsKeptNode doc.packages rows marks l
          → kept_cmp k l ≡ Less → package_cmp (listed doc.packages k) (listed doc.packages l) ≡ Less
      mirrors k l a b below =
          subst (λ (r : Rank). rank_cmp r (rank_of (listed doc.packages l)) ≡ Less) a.ranked
          (subst (λ (r : Rank). rank_cmp k.rank r ≡ Less) b.ranked
          (then_below (rank_cmp k.rank l.rank) _ below
          (λ tie under.
          let ranks : k.rank ≡ l.rank = rank_cmp-exact k.rank l.rank tie in
          let ids : (listed doc.packages k).id ≡ (listed doc.packages l).id = ap (λ (r : Rank). r.id)
          (sym a.ranked ∙ (ranks ∙ b.ranked)) in
          not_below_itself kept_cmp kept_cmp-total k l
          (one_kept doc.packages rows marks k l a b (same_node k l a b ids)) below)))

  kept_holds : (place : ℕ) (k : KeptPackage) → slice_get kept place ≡ Some k → IsKeptNode doc.packages rows marks k
  kept_holds place k at = is.lists.sound k (from_there kept place k at)

  -- no two kept packages share a node
  pub nodes_apart : AllPairs (λ m n. m ≢ n) (map (λ (k : KeptPackage). k.node) kept)
  nodes_apart i j d below inside same =
      let at = from_map_at (λ (k : KeptPackage). k.node) kept i _
      (slice_get-get_or (map (λ (k : KeptPackage). k.node) kept) i d (omega (arith, below, inside))) in
      let at' = from_map_at (λ (k : KeptPackage). k.node) kept j _
      (slice_get-get_or (map (λ (k : KeptPackage). k.node) kept) j d inside) in
      let one : at.0 ≡ at'.0 = one_kept doc.packages rows marks at.0 at'.0 (kept_holds i at.0 at.1)
      (kept_holds j at'.0 at'.1) (at.2 ∙ (same ∙ sym at'.2)) in
      not_below_itself kept_cmp kept_cmp-total at.0 at'.0 one
      (ascends_at kept_cmp kept i j at.0 at'.0 is.lists.ascending below at.1 at'.1)

  pub nodes_inside : All (λ n. n < length rows) (map (λ (k : KeptPackage). k.node) kept)
  nodes_inside i d inside =
      let at = from_map_at (λ (k : KeptPackage). k.node) kept i _
      (slice_get-get_or (map (λ (k : KeptPackage). k.node) kept) i d inside) in
      let k = kept_holds i at.0 at.1 in
      subst (λ (n : ℕ). n < length rows) at.2 (slice_get_within rows at.0.node k.row k.at)

  pub kept_inside : All (λ k. k.node < length rows) kept
  kept_inside i d inside = let k = kept_holds i (slice_index_or kept i d) (slice_get-get_or kept i d inside) in
      slice_get_within rows (slice_index_or kept i d).node k.row k.at

  pub owners_kept : All (λ k. k.owner < length doc.packages) kept
  owners_kept i d inside =
      let k = kept_holds i (slice_index_or kept i d) (slice_get-get_or kept i d inside) in
      subst (λ (n : ℕ). n < length doc.packages) (sym k.owner) (slice_get_within doc.packages k.row.owner _ k.holds)

  -- no two crates share an id
  pub ids_apart : (i j : ℕ) (p q : MetadataPackage) → i < j → slice_get (map (listed doc.packages) kept) i ≡ Some p
      → slice_get (map (listed doc.packages) kept) j ≡ Some q → p.id ≡ q.id → ⊥
  ids_apart i j p q below at at' same =
      let k = from_map_at (listed doc.packages) kept i p at in
      let l = from_map_at (listed doc.packages) kept j q at' in
      let ids : (listed doc.packages k.0).id ≡ (listed doc.packages l.0).id = ap (λ (x : MetadataPackage). x.id) k.2
      ∙ (same ∙ sym (ap (λ (x : MetadataPackage). x.id) l.2)) in
      let one : k.0 ≡ l.0 = one_kept doc.packages rows marks k.0 l.0 (kept_holds i k.0 k.1) (kept_holds j l.0 l.1)
      (same_node k.0 l.0 (kept_holds i k.0 k.1) (kept_holds j l.0 l.1) ids) in
      not_below_itself kept_cmp kept_cmp-total k.0 l.0 one
      (ascends_at kept_cmp kept i j k.0 l.0 is.lists.ascending below k.1 l.1)

  -- no two kept packages share a number
  pub owners_apart : AllPairs (λ m n. m ≢ n) (map (λ (k : KeptPackage). k.owner) kept)
  unfolding listed
  owners_apart i j d below inside same =
      let at = from_map_at (λ (k : KeptPackage). k.owner) kept i _
      (slice_get-get_or (map (λ (k : KeptPackage). k.owner) kept) i d (omega (arith, below, inside))) in
      let at' = from_map_at (λ (k : KeptPackage). k.owner) kept j _
      (slice_get-get_or (map (λ (k : KeptPackage). k.owner) kept) j d inside) in
      let one : listed doc.packages at.0 ≡ listed doc.packages at'.0 = ap
      (λ (n : ℕ). slice_index_or doc.packages n no_package) (at.2 ∙ (same ∙ sym at'.2)) in
      ids_apart i j (listed doc.packages at.0) (listed doc.packages at'.0) below
      (map_at (listed doc.packages) kept i at.0 at.1) (map_at (listed doc.packages) kept j at'.0 at'.1)
      (ap (λ (p : MetadataPackage). p.id) one)

  module _ (places : List ℕ) (inverse : IsInverse (map (λ (k : KeptPackage). k.node) kept) (length rows) places) where
    place_is : (place : ℕ) (k : KeptPackage) → slice_get kept place ≡ Some k → place_at places k.node ≡ place
    place_is place k at = inverse.at place k.node (map_at (λ (k : KeptPackage). k.node) kept place k at)

    -- the members are those of the metadata
    pub are_members : (members : List ℕ) → Lists nat_cmp (Contains (map (place_at places) starting)) members
        → Lists nat_cmp (IsMember doc (map (listed doc.packages) kept)) members
    are_members members lists = record {
      ascending = lists.ascending;
      whole = λ place holds.
          let k = from_map_at (listed doc.packages) kept place holds.of holds.holds in
          let of_member : Contains doc.members (listed doc.packages k.0).id = subst
          (λ (p : MetadataPackage). Contains doc.members p.id) (sym k.2) holds.listed in
          let start = member_is doc starting rows (listed doc.packages k.0).id is.resolved of_member in
          let node : start.0 ≡ k.0.node = apart (node_ids doc) start.0 k.0.node (listed doc.packages k.0).id
          is.resolved.nodes start.2 (kept_id k.0 (kept_holds place k.0 k.1)).0 in
          lists.whole place (subst (λ (p : ℕ). Contains (map (place_at places) starting) p)
          (ap (place_at places) node ∙ place_is place k.0 k.1)
          (contains_map (place_at places) starting start.0 start.1));
      sound = λ place holds.
          let from = from_contains_map (place_at places) starting place (lists.sound place holds) in
          let k = kept_at from.0 (from_start from.0 from.1) in
          let here : k.0 ≡ place = sym (place_is k.0 k.1 k.2) ∙ (ap (place_at places) k.3 ∙ from.2) in
          let start = start_is doc starting rows from.0 is.resolved from.1 in
          let id : start.0 ≡ (listed doc.packages k.1).id = one_there (node_ids doc) from.0 start.0
          (listed doc.packages k.1).id start.2
          (subst (λ (n : ℕ). IsAt doc n (listed doc.packages k.1).id) k.3 (kept_id k.1 k.4).0) in
          record {
            of = (listed doc.packages k.1);
            holds = map_at (listed doc.packages) kept place k.1
                (subst (λ (p : ℕ). slice_get kept p ≡ Some k.1) here k.2);
            listed = subst (λ (t : List ℕ). Contains doc.members t) id start.1;
          };
    }

    -- an edge from a kept package
    pub record EdgeFrom (first : ℕ) (ks : List KeptPackage) (e : TargetEdge) : Type 0 where
      pub at : ℕ
      pub kept_one : KeptPackage
      pub link : Link
      pub holds : slice_get ks at ≡ Some kept_one
      pub parent : e.parent ≡ first + at
      pub linked : Contains (links_at rows kept_one.node) link
      pub made : e ≡ edge_to places (first + at) link

    edge_from : (first : ℕ) (ks : List KeptPackage) (e : TargetEdge) → Contains (edges_from rows places first ks) e
        → EdgeFrom first ks e
    edge_from first [] e holds = absurd (none-some e (there [] e holds).1)
    edge_from first (k ∷ ks) e holds =
        by_part (λ other. edge_from (first + 1) ks e other)
        (Contains-append_cases (map (edge_to places first) (links_at rows k.node))
        (edges_from rows places (first + 1) ks) e holds)
      where
        by_part : (Contains (edges_from rows places (first + 1) ks) e → EdgeFrom (first + 1) ks e)
            → Contains (map (edge_to places first) (links_at rows k.node)) e ⊎ Contains
            (edges_from rows places (first + 1) ks) e → EdgeFrom first (k ∷ ks) e
        by_part rest (inl own) =
            let from = from_contains_map (edge_to places first) (links_at rows k.node) e own in
            record {
              at = 0;
              kept_one = k;
              link = from.0;
              holds = refl;
              parent = sym
                  (ap (λ (x : TargetEdge). x.parent) from.2) ∙ sym (add-zero first);
              linked = from.1;
              made = sym from.2 ∙ ap
                  (λ (n : ℕ). edge_to places n from.0) (sym (add-zero first));
            }
        by_part rest (inr other) =
            let later = rest other in
            let moved : (first + 1) + later.at ≡ first + suc later.at = omega arith in
            record {
              at = suc later.at;
              kept_one = later.kept_one;
              link = later.link;
              holds = later.holds;
              parent = later.parent ∙ moved;
              linked = later.linked;
              made = later.made ∙ ap
                  (λ (n : ℕ). edge_to places n later.link) moved;
            }

    from_edge : (first : ℕ) (ks : List KeptPackage) (at : ℕ) (k : KeptPackage) (l : Link) → slice_get ks at ≡ Some k
        → Contains (links_at rows k.node) l → Contains (edges_from rows places first ks) (edge_to places (first + at) l)
    from_edge first [] at k l holds linked = absurd (none-some k holds)
    from_edge first (x ∷ ks) zero k l holds linked =
        subst (λ (n : ℕ). Contains (edges_from rows places first (x ∷ ks)) (edge_to places n l)) (sym (add-zero first))
        (Contains-append_left (map (edge_to places first) (links_at rows x.node))
        (edges_from rows places (first + 1) ks) (edge_to places first l)
        (contains_map (edge_to places first) (links_at rows x.node) l
        (subst (λ (y : KeptPackage). Contains (links_at rows y.node) l) (sym (same_Some x k holds)) linked)))
    from_edge first (x ∷ ks) (suc at) k l holds linked =
        let moved : (first + 1) + at ≡ first + suc at = omega arith in
        subst (λ (n : ℕ). Contains (edges_from rows places first (x ∷ ks)) (edge_to places n l)) moved
        (Contains-append_right (map (edge_to places first) (links_at rows x.node))
        (edges_from rows places (first + 1) ks) (edge_to places ((first + 1) + at) l)
        (from_edge (first + 1) ks at k l holds linked))

    edge_made : (e : TargetEdge) (place : ℕ) (l : Link) → e.parent ≡ place → e.child ≡ place_at places l.node
        → e.kind ≡ l.needed_as.kind → e.target ≡ l.needed_as.target → edge_to places place l ≡ e
    edge_made e place l a b c d = cc (edge_again-is e, edge_again-is (edge_to places place l))
      where
        edge_again : ℕ → ℕ → DepKind → Option (List ℕ) → TargetEdge
        edge_again parent child kind target = record { parent = parent; child = child; kind = kind; target = target }

        edge_again-is : (x : TargetEdge) → edge_again x.parent x.child x.kind x.target ≡ x
        edge_again-is x = refl

    as_made : (n m : NeededAs) → n.kind ≡ m.kind → n.target ≡ m.target → n ≡ m
    as_made n m a b = cc (as_again-is n, as_again-is m)
      where
        as_again : DepKind → Option (List ℕ) → NeededAs
        as_again kind target = record { kind = kind; target = target }

        as_again-is : (x : NeededAs) → as_again x.kind x.target ≡ x
        as_again-is x = refl

    -- the target edges are the dependencies between crates
    pub are_target_edges : (edges : List TargetEdge) → Lists target_edge_cmp (Contains (edges_from rows places 0 kept))
        edges → Lists target_edge_cmp (IsTargetEdge doc (map (listed doc.packages) kept)) edges
    are_target_edges edges lists = record {
      ascending = lists.ascending;
      whole = λ e holds. lists.whole e (there_is e holds);
      sound = λ e holds. is_edge e (edge_from 0 kept e (lists.sound e holds));
    }
      where
        there_is : (e : TargetEdge) → IsTargetEdge doc (map (listed doc.packages) kept) e
            → Contains (edges_from rows places 0 kept) e
        there_is e holds =
            let k = from_map_at (listed doc.packages) kept e.parent holds.parent holds.parent_holds in
            let m = from_map_at (listed doc.packages) kept e.child holds.child holds.child_holds in
            let k_at = (kept_id k.0 (kept_holds e.parent k.0 k.1)).0 in
            let m_at = (kept_id m.0 (kept_holds e.child m.0 m.1)).0 in
            let at : IsAt doc k.0.node holds.parent.id =
            subst (λ (p : MetadataPackage). IsAt doc k.0.node p.id) k.2 k_at in
            let child_at : IsAt doc m.0.node holds.child.id =
            subst (λ (p : MetadataPackage). IsAt doc m.0.node p.id) m.2
            m_at in
            let link = need_links doc starting rows k.0.node holds.parent.id
            (record { kind = e.kind; target = e.target }) holds.child.id is.resolved at holds.needs in
            let node : link.0.node ≡ m.0.node = apart (node_ids doc) link.0.node m.0.node holds.child.id
            is.resolved.nodes link.3 child_at in
            let child : e.child ≡ place_at places link.0.node = sym (place_is e.child m.0 m.1) ∙ ap (place_at places)
            (sym node) in
            let zero_plus : e.parent ≡ 0 + e.parent = omega arith in
            subst (λ (x : TargetEdge). Contains (edges_from rows places 0 kept) x)
            (edge_made e (0 + e.parent) link.0 zero_plus child (ap (λ (n : NeededAs). n.kind) (sym link.2))
            (ap (λ (n : NeededAs). n.target) (sym link.2)))
            (from_edge 0 kept e.parent k.0 link.0 k.1 link.1)

        is_edge : (e : TargetEdge) → EdgeFrom 0 kept e → IsTargetEdge doc (map (listed doc.packages) kept) e
        is_edge e from =
            let parent : e.parent ≡ from.at = omega (arith, from.parent) in
            let k = kept_holds from.at from.kept_one from.holds in
            let reached : Reaches rows starting from.kept_one.node = is.reached.sound from.kept_one.node k.marked in
            let m = kept_at from.link.node (by_link from.kept_one.node from.link reached from.linked) in
            let child : e.child ≡ m.0 = ap (λ (x : TargetEdge). x.child) from.made
            ∙ (ap (place_at places) (sym m.3) ∙ place_is m.0 m.1 m.2) in
            let row = linked_row rows from.kept_one.node from.link from.linked in
            let at = row_is doc starting rows from.kept_one.node row.0 is.resolved row.1 in
            let needs = link_needs doc from.kept_one.node row.0 from.link at row.2 in
            let id : at.node.id ≡ (listed doc.packages from.kept_one).id = one_there (node_ids doc) from.kept_one.node
            at.node.id (listed doc.packages from.kept_one).id (node_at doc from.kept_one.node at.node at.at)
            (kept_id from.kept_one k).0 in
            let needed : needs.0 ≡ (listed doc.packages m.1).id = one_there (node_ids doc) from.link.node needs.0
            (listed doc.packages m.1).id needs.1
            (subst (λ (n : ℕ). IsAt doc n (listed doc.packages m.1).id) m.3 (kept_id m.1 m.4).0) in
            let as_it_is : NeededAs = record { kind = e.kind; target = e.target } in
            let needed_as : from.link.needed_as ≡ as_it_is = as_made from.link.needed_as as_it_is
            (sym (ap (λ (x : TargetEdge). x.kind) from.made)) (sym (ap (λ (x : TargetEdge). x.target) from.made)) in
            record {
              parent = (listed doc.packages from.kept_one);
              child = (listed doc.packages m.1);
              parent_holds = map_at (listed doc.packages) kept e.parent from.kept_one
                  (subst (λ (n : ℕ). slice_get kept n ≡ Some from.kept_one) (sym parent) from.holds);
              child_holds = map_at (listed doc.packages) kept e.child m.1
                  (subst (λ (n : ℕ). slice_get kept n ≡ Some m.1) (sym child) m.2);
              needs = subst₃ (NeedsFor doc) id needed_as needed needs.2;
            }

-- the edges are the target edges without their targets
module _ (doc : Document) (packages : List MetadataPackage) (targeted : List TargetEdge)
    (are : Lists target_edge_cmp (IsTargetEdge doc packages) targeted) where
  pub are_edges : (edges : List Edge) → Lists edge_cmp (Contains (map edge_of targeted)) edges
      → Lists edge_cmp (IsEdge doc packages) edges
  are_edges edges lists = record {
    ascending = lists.ascending;
    whole = λ e holds. lists.whole e (there_is e holds);
    sound = λ e holds. is_edge e (lists.sound e holds);
  }
    where
      edge_again : ℕ → ℕ → DepKind → Edge
      edge_again parent child kind = record { parent = parent; child = child; kind = kind }

      edge_again-is : (x : Edge) → edge_again x.parent x.child x.kind ≡ x
      edge_again-is x = refl

      there_is : (e : Edge) → IsEdge doc packages e → Contains (map edge_of targeted) e
      there_is e holds =
          let needs = needs_for doc holds.parent.id e.kind holds.child.id holds.needs in
          let t : TargetEdge =
          record { parent = e.parent; child = e.child; kind = needs.0.kind; target = needs.0.target } in
          let is : IsTargetEdge doc packages t = record {
            parent = holds.parent;
            child = holds.child;
            parent_holds = holds.parent_holds;
            child_holds = holds.child_holds;
            needs = needs.2;
          } in
          let same : edge_of t ≡ e = ap (λ (kind : DepKind). edge_again e.parent e.child kind) needs.1
          ∙ edge_again-is e in
          subst (λ (x : Edge). Contains (map edge_of targeted) x) same
          (contains_map edge_of targeted t (are.whole t is))

      is_edge : (e : Edge) → Contains (map edge_of targeted) e → IsEdge doc packages e
      is_edge e holds =
          let from = from_contains_map edge_of targeted e holds in
          let is = are.sound from.0 from.1 in
          subst (λ (x : Edge). IsEdge doc packages x) from.2
          (record {
            parent = is.parent;
            child = is.child;
            parent_holds = is.parent_holds;
            child_holds = is.child_holds;
            needs = needs_of doc is.parent.id (record { kind = from.0.kind; target = from.0.target }) is.child.id
                is.needs;
          })
