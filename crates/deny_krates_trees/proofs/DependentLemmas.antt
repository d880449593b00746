-- The direct dependents of a crate, as the graph's calls list them and as trees show them.
use Rattle.std.proofs.Common.{◌≡◌, ◌∙◌, ◌≤◌, ℕ, Bool, true, false, List, [], ◌∷◌, Option, None, Some, ap, sym, refl}
use Rattle.std.proofs.Common.{subst, arith, get_or, map, slice_get}
use Rattle.std.specs.Prelude.{All, Contains}
use Rattle.std.specs.Cmp.{IsTotalOrder, on_total, nat_cmp_total, then_total}
use Rattle.std.specs.Cmp.Lexicographic.{nat_list_cmp_total, options_total, slice_cmp}
use Rattle.std.specs.FinMap.{IsAntisymmetric, nat_cmp-IsAntisymmetric}
use Rattle.std.specs.List.Sorted.{IsStrictlySortedBy}
use Rattle.std.specs.Option.{option_cmp, option_map_or}
use Rattle.std.specs.Ordering.{nat_cmp, ordering_then}
use Rattle.std.specs.declared.cmp.Ordering.TheVariants.{Equal, Less}
use Rattle.std.proofs.lemmas.Bool.{false≢true}
use Rattle.std.proofs.lemmas.List.Elements.{All-contains, All-contains_itself, All-map}
use Rattle.std.proofs.lemmas.Option.{slice_get_within}
use Rattle.deny_base.proofs.EdgeEqual.{kind_cmp-exact}
use Rattle.deny_base.specs.Edge.{kind_cmp, kind_number}
use Rattle.deny_base.specs.declared.edge.DepKind.{DepKind}
use Rattle.deny_base.specs.declared.edge.DepKind.TheVariants.{Normal, Dev, Build}
use Rattle.deny_base.specs.declared.edge.Edge.{Edge}
use Rattle.deny_base_lists.specs.Ascending.{Lists}
use Rattle.deny_base_lists.proofs.Members.{Contains-from_map, contains_map, filtered, there}
use Rattle.deny_base_lists.proofs.Orders.{option_text_cmp-exact, then_first, then_second}
use Rattle.deny_base_lists.proofs.Sorted.{ascends_map}
use Rattle.deny_krates.specs.Crates.{crates_from}
use Rattle.deny_krates.specs.Dependents.{AreDirectDependents, IsLeastKind, by_id, id_at}
use Rattle.deny_krates.specs.Nodes.{Incoming, Node, from_crate, has_edge, incoming_at, incoming_cmp, node_at}
use Rattle.deny_krates.specs.krate.DirectDependent.{DirectDependent}
use Rattle.deny_krates.specs.krate.Krate.{Krate}
use Rattle.deny_krates.proofs.InOrderLemmas.{in_order_is}
use Rattle.deny_krates.proofs.NodeLemmas.{crate_within, node_of_crate, placed}
use Rattle.deny_krates.proofs.SourceLemmas.{edge_asked, incoming_from-is}
use Rattle.deny_spec.specs.Graph.{Crate, Graph, dependents}
use Rattle.deny_krates_trees.specs.Parents.{dependents_in, dependents_of, least_kind, least_of}
use Rattle.deny_krates_trees.specs.private.Growing.{IsInside, edge_from}

-- ---- the least kind

edge_of : ℕ → ℕ → DepKind → Edge
edge_of parent child kind = record { parent = parent; child = child; kind = kind }

has_true : (g : Graph) (p c : Crate) (kind : DepKind) → Contains g.edges (edge_of p.place c.place kind)
    → has_edge g p c kind ≡ true
unfolding edge_of
has_true g p c kind is = sym (edge_asked g p c kind true (λ known. is, λ holds. refl))

has_false : (g : Graph) (p c : Crate) (kind : DepKind) → (Contains g.edges (edge_of p.place c.place kind) → ⊥)
    → has_edge g p c kind ≡ false
unfolding edge_of
has_false g p c kind never = sym (edge_asked g p c kind false (
  λ known. absurd (false≢true known),
  λ holds. absurd
      (never holds),
))

least-is : (normal dev : Bool) (kind : DepKind) → least_of normal dev ≡ kind → (n d : Bool) → n ≡ normal → d ≡ dev
    → least_of n d ≡ kind
least-is normal dev kind is n d a b = ap (λ x. least_of x d) a ∙ (ap (least_of normal) b ∙ is)

-- the kind that the graph keeps is the least one
kept_kind : (g : Graph) (p c : Crate) (kind : DepKind) → Contains g.edges (edge_of p.place c.place kind)
    → ((other : DepKind) → Contains g.edges (edge_of p.place c.place other) → kind_number kind ≤ kind_number other)
    → least_kind g p c ≡ kind
unfolding least_kind kind_number
kept_kind g p c Normal holds least =
    ap (λ b. least_of b (has_edge g p c Dev)) (has_true g p c Normal holds)
kept_kind g p c Dev holds least =
    least-is false true Dev refl (has_edge g p c Normal) (has_edge g p c Dev)
    (has_false g p c Normal (λ is. absurd (omega (arith, least Normal is)))) (has_true g p c Dev holds)
kept_kind g p c Build holds least =
    least-is false false Build refl (has_edge g p c Normal) (has_edge g p c Dev)
    (has_false g p c Normal (λ is. absurd (omega (arith, least Normal is))))
    (has_false g p c Dev (λ is. absurd (omega (arith, least Dev is))))

-- ---- the order of sources

kind_exact : (a b : Option DepKind) → option_cmp kind_cmp a b ≡ Equal → a ≡ b
kind_exact None None e = refl
kind_exact None (Some b) e = cc
kind_exact (Some a) None e = cc
kind_exact (Some a) (Some b) e = ap (λ x. Some x) (kind_cmp-exact a b e)

pub sources_exact : (g : Graph) → IsAntisymmetric (incoming_cmp g)
unfolding incoming_cmp
sources_exact g a b e =
    let feature : a.node.feature ≡ b.node.feature = option_text_cmp-exact a.node.feature b.node.feature
    (then_first _ _ e) in
    let rest = then_second (option_cmp (slice_cmp nat_cmp) a.node.feature b.node.feature) _ e in
    let last = then_second (slice_cmp nat_cmp (id_at g a.node.place) (id_at g b.node.place)) _ rest in
    let kind : a.kind ≡ b.kind = kind_exact a.kind b.kind (then_first _ _ last) in
    let place : a.node.place ≡ b.node.place = nat_cmp-IsAntisymmetric a.node.place b.node.place
    (then_second (option_cmp kind_cmp a.kind b.kind) _ last) in
    cc (incoming_from-is a, incoming_from-is b)

pub sources_total : (g : Graph) → IsTotalOrder (incoming_cmp g)
unfolding incoming_cmp
sources_total g =
    then_total (on_total (λ (i : Incoming). i.node.feature) (options_total nat_list_cmp_total))
    (then_total (on_total (λ (i : Incoming). id_at g i.node.place) nat_list_cmp_total)
    (then_total (on_total (λ (i : Incoming). i.kind) (options_total (on_total kind_number nat_cmp_total)))
    (on_total (λ (i : Incoming). i.node.place) nat_cmp_total)))

-- ---- direct dependents

module _ (ks : List Krate) (g : Graph) (same : crates_from 0 ks ≡ g.crates) (c : Crate) (ds : List DirectDependent)
    (at : slice_get g.crates c.place ≡ Some c) (are : AreDirectDependents g c.place ds) where
  view : DirectDependent → Incoming
  view d = incoming_at g (edge_from d)

  -- a direct dependent with its crate
  record IsOf (d : DirectDependent) : Type 0 where
    krate : Crate
    member : Contains (dependents g c.place) krate
    here : slice_get g.crates d.place ≡ Some krate
    is : krate.place ≡ d.place

  of_dependent : (d : DirectDependent) → Contains ds d → IsOf d
  unfolding dependents
  of_dependent d holds =
      let from = Contains-from_map (λ (p : Crate). p.place) (dependents g c.place) d.place
      (All-contains (λ (x : DirectDependent). Contains (map (λ (p : Crate). p.place)
      (dependents g c.place)) x.place) ds d
      are.sound holds) in
      let stood = there g.crates from.from (filtered _ g.crates from.from from.member) in
      let place = (placed ks g same).each stood.0 from.from stood.1 in
      record {
        krate = from.from;
        member = from.member;
        here = ap (slice_get g.crates) (sym (sym place ∙ from.is)) ∙ stood.1;
        is = from.is;
      }

  view-is : (d : DirectDependent) → Contains ds d → (p : Crate) → slice_get g.crates d.place ≡ Some p
      → p.place ≡ d.place → view d ≡ from_crate p (least_kind g p c)
  unfolding edge_of view
  view-is d holds p here is =
      let least = All-contains (IsLeastKind g.edges (λ parent kind. record {
        parent = parent;
        child = c.place;
        kind =
            kind;
      }))
      ds d are.kinds holds in
      let kind : least_kind g p c ≡ d.kind = kept_kind g p c d.kind
      (subst (λ n. Contains g.edges (record { parent = n; child = c.place; kind = d.kind })) (sym is) least.holds)
      (λ other stood. least.least other
      (subst (λ n. Contains g.edges (record { parent = n; child = c.place; kind = other })) is stood)) in
      ap (λ (n : Node). record { node = n; kind = Some d.kind }) (node_of_crate ks g same d.place p here)
      ∙ ap (λ k. from_crate p k) (sym kind)

  -- the node of a direct dependent is that of its crate
  abbrev AtCrate : DirectDependent → Type 0
  AtCrate d = node_at g d.place ≡ record { place = d.place; feature = None }

  at_crate : (d : DirectDependent) → Contains ds d → AtCrate d
  at_crate d holds =
      let of = of_dependent d holds in
      node_of_crate ks g same d.place of.krate of.here
      ∙ ap (λ n. record { place = n; feature = None }) of.is

  by_ids : (x y : DirectDependent) → AtCrate x → AtCrate y → by_id g x y ≡ Less
      → incoming_cmp g (view x) (view y) ≡ Less
  unfolding incoming_cmp view
  by_ids x y a b less =
      let rest = λ (m n : Node). ordering_then (option_cmp kind_cmp (Some x.kind) (Some y.kind))
      (nat_cmp m.place n.place) in
      let whole = λ (m n : Node). ordering_then (option_cmp (slice_cmp nat_cmp) m.feature n.feature)
      (ordering_then (slice_cmp nat_cmp (id_at g m.place) (id_at g n.place)) (rest m n)) in
      ap (λ m. whole m (node_at g y.place)) a
      ∙ (ap (whole (record { place = x.place; feature = None })) b
      ∙ ap (λ o. ordering_then o (rest (record { place = x.place; feature = None })
      (record { place = y.place; feature = None }))) less)

  ascending : IsStrictlySortedBy (incoming_cmp g) (map view ds)
  ascending = ascends_map (by_id g) (incoming_cmp g) view AtCrate ds by_ids at_crate are.ascending

  source : Crate → Incoming
  source p = from_crate p (least_kind g p c)

  listed : Lists (incoming_cmp g) (Contains (map source (dependents g c.place))) (map view ds)
  unfolding source dependents
  listed = record {
    ascending = ascending;
    whole = λ z is.
        let from = Contains-from_map source (dependents g c.place) z is in
        let found = Contains-from_map (λ (d : DirectDependent). d.place) ds from.from.place
        (All-contains (λ (p : Crate). Contains (map (λ (d : DirectDependent). d.place) ds) p.place)
        (dependents g c.place)
        from.from are.whole from.member) in
        subst (Contains (map view ds)) (view-is found.from found.member from.from
        (ap (slice_get g.crates) found.is ∙ its_place from.from from.member) (sym found.is) ∙ from.is)
        (contains_map view ds found.from found.member);
    sound = λ z is.
        let from = Contains-from_map view ds z is in
        let of = of_dependent from.from from.member in
        subst (Contains (map source (dependents g c.place)))
        (sym (view-is from.from from.member of.krate of.here of.is) ∙ from.is)
        (contains_map source (dependents g c.place) of.krate of.member);
  }
    where
      its_place : (p : Crate) → Contains (dependents g c.place) p → slice_get g.crates p.place ≡ Some p
      its_place p member =
          let stood = there g.crates p (filtered _ g.crates p member) in
          ap (slice_get g.crates) ((placed ks g same).each stood.0 p stood.1) ∙ stood.1

  viewed : (some : List DirectDependent) → map (incoming_at g) (map edge_from some) ≡ map view some
  unfolding view
  viewed [] = refl
  viewed (d ∷ rest) = ap (λ is. incoming_at g (edge_from d) ∷ is) (viewed rest)

  -- the edges that the graph's call gives are the direct dependents that trees show
  pub are_dependents : (node : Node) → node.place ≡ c.place → map (incoming_at g) (map edge_from ds)
      ≡ dependents_in g node
  unfolding dependents_in dependents_of view source
  are_dependents node is =
      viewed ds
      ∙ (in_order_is (incoming_cmp g) (sources_total g) (sources_exact g) (map source (dependents g c.place))
      (map view ds)
      listed
      ∙ sym (ap (λ (o : Option Crate). option_map_or (dependents_of g) o []) (ap (slice_get g.crates) is ∙ at)))

  -- each direct dependent is a node of the graph
  pub are_inside : All (IsInside g) (map edge_from ds)
  are_inside = All-map (IsInside g) edge_from ds (λ k d within.
      let one = get_or ds k d in
      let holds : Contains ds one = All-contains_itself ds k d within in
      let of = of_dependent one holds in
      crate_within g one.place (slice_get_within g.crates one.place of.krate of.here))
