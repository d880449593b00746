-- Sources of edges: their order, and that those that are collected are those of a node.
use Rattle.std.proofs.Common.{◌≡◌, ◌∙◌, ℕ, inl, inr, List, [], ◌++◌, Bool, true, false, Option, Some, None, IsTrue, map}
use Rattle.std.proofs.Common.{refl, sym, ap, subst}
use Rattle.std.specs.Prelude.{◌==◌, ◌&&◌, ◌↔◌, Contains, slice_get}
use Rattle.std.specs.Cmp.{IsTotalOrder, nat_cmp_is, nat_cmp_total, on_total, then_total}
use Rattle.std.specs.Cmp.Lexicographic.{nat_list_cmp_total, options_total, slice_cmp}
use Rattle.std.specs.FinMap.{IsAntisymmetric, nat_cmp-IsAntisymmetric}
use Rattle.std.specs.List.{flat_map, list_any}
use Rattle.std.specs.Option.{option_and_then, option_cmp, option_map_or}
use Rattle.std.specs.Ordering.{nat_cmp, ordering_then}
use Rattle.std.specs.declared.cmp.Ordering.TheVariants.{Less, Equal}
use Rattle.std.proofs.lemmas.Bool.{and_from, and_parts, eq-eqb, eqb-true}
use Rattle.std.proofs.lemmas.List.Elements.{All-contains, Contains-append_cases, Contains-append_left}
use Rattle.std.proofs.lemmas.List.Elements.{Contains-append_right}
use Rattle.deny_base_lists.specs.Ascending.{Lists}
use Rattle.deny_base_lists.proofs.Booleans.{tests_agree}
use Rattle.deny_base_lists.proofs.Members.{Contains-filter, Contains-flat_map, Contains-from_filter}
use Rattle.deny_base_lists.proofs.Members.{Contains-from_flat_map}
use Rattle.deny_base_lists.proofs.Members.{Contains-from_map, any_from, any_passes, contains_map, from_there, there}
use Rattle.deny_base_lists.proofs.Orders.{option_text_cmp-exact, text_cmp-exact, then_first, then_second}
use Rattle.deny_base_lists.proofs.Orders.{option_cmp-exact}
use Rattle.deny_base_lists.proofs.Sorted.{ascends_map}
use Rattle.deny_base.proofs.EdgeEqual.{kind_cmp-exact, edge_from, edge_from-is}
use Rattle.deny_base.specs.Edge.{kind_cmp, kind_number}
use Rattle.deny_base.specs.declared.edge.DepKind.{DepKind}
use Rattle.deny_base.specs.declared.edge.Edge.{Edge}
use Rattle.deny_krates_graph.specs.Dependents.{AreDirectDependents, id_at}
use Rattle.deny_krates.specs.Nodes.{Incoming, Node, declared, has_edge, incoming_cmp, incoming_in, of_parents}
use Rattle.deny_krates.specs.Nodes.{resolves_to, sources_at, all_kinds}
use Rattle.deny_krates.specs.private.Resolved.{AreBetween, IsResolvedAt, resolved_to}
use Rattle.deny_krates.specs.private.Sources.{parent_cmp, parent_of, passes_there, source_of}
use Rattle.deny_krates.specs.declared.incoming.Parent.{Parent}
use Rattle.deny_krates_graph.specs.declared.krate.DirectDependent.{DirectDependent}
use Rattle.deny_krates.specs.declared.resolved.ResolvedAt.{ResolvedAt}
use Rattle.deny_krates.proofs.InOrderLemmas.{in_order_is}
use Rattle.deny_krates.proofs.NumberLemmas.{HavePlaces}
use Rattle.deny_spec.specs.Graph.{Crate, Dependency, Graph, dependents, leads}
use Rattle.deny_spec.specs.Resolution.{declaration_at, resolution}

-- ---- orders

kind_total : IsTotalOrder kind_cmp
kind_total = on_total kind_number nat_cmp_total

parent_from : Option (List ℕ) → List ℕ → Option DepKind → ℕ → Parent
parent_from feature id kind place = record { feature = feature; id = id; kind = kind; place = place }

parent_from-is : (p : Parent) → parent_from p.feature p.id p.kind p.place ≡ p
unfolding parent_from
parent_from-is p = refl

pub parent_cmp-exact : IsAntisymmetric parent_cmp
parent_cmp-exact a b e =
    let feature : a.feature ≡ b.feature = option_text_cmp-exact a.feature b.feature (then_first _ _ e) in
    let rest = then_second (option_cmp (slice_cmp nat_cmp) a.feature b.feature) _ e in
    let id : a.id ≡ b.id = text_cmp-exact a.id b.id (then_first _ _ rest) in
    let last = then_second (slice_cmp nat_cmp a.id b.id) _ rest in
    let kind : a.kind ≡ b.kind = option_cmp-exact kind_cmp kind_cmp-exact a.kind b.kind (then_first _ _ last) in
    let place : a.place ≡ b.place = nat_cmp-IsAntisymmetric a.place b.place
    (then_second (option_cmp kind_cmp a.kind b.kind) _ last) in
    cc (parent_from-is a, parent_from-is b)

pub parent_cmp-total : IsTotalOrder parent_cmp
parent_cmp-total = then_total (on_total (λ (p : Parent). p.feature) (options_total nat_list_cmp_total))
    (then_total (on_total (λ (p : Parent). p.id) nat_list_cmp_total)
    (then_total (on_total (λ (p : Parent). p.kind) (options_total kind_total))
    (on_total (λ (p : Parent). p.place) nat_cmp_total)))

pub incoming_from : Option (List ℕ) → Option DepKind → ℕ → Incoming
incoming_from feature kind place = record { node = record { place = place; feature = feature }; kind = kind }

pub incoming_from-is : (i : Incoming) → incoming_from i.node.feature i.kind i.node.place ≡ i
unfolding incoming_from
incoming_from-is i = refl

module _ (g : Graph) where
  incoming_cmp-exact : IsAntisymmetric (incoming_cmp g)
  unfolding incoming_cmp
  incoming_cmp-exact a b e =
      let feature : a.node.feature ≡ b.node.feature = option_text_cmp-exact a.node.feature b.node.feature
      (then_first _ _ e) in
      let rest = then_second (option_cmp (slice_cmp nat_cmp) a.node.feature b.node.feature) _ e in
      let last = then_second (slice_cmp nat_cmp (id_at g a.node.place) (id_at g b.node.place)) _ rest in
      let kind : a.kind ≡ b.kind = option_cmp-exact kind_cmp kind_cmp-exact a.kind b.kind (then_first _ _ last) in
      let place : a.node.place ≡ b.node.place = nat_cmp-IsAntisymmetric a.node.place b.node.place
      (then_second (option_cmp kind_cmp a.kind b.kind) _ last) in
      cc (incoming_from-is a, incoming_from-is b)

  incoming_cmp-total : IsTotalOrder (incoming_cmp g)
  unfolding incoming_cmp
  incoming_cmp-total = then_total (on_total (λ (i : Incoming). i.node.feature) (options_total nat_list_cmp_total))
      (then_total (on_total (λ (i : Incoming). id_at g i.node.place) nat_list_cmp_total)
      (then_total (on_total (λ (i : Incoming). i.kind) (options_total kind_total))
      (on_total (λ (i : Incoming). i.node.place) nat_cmp_total)))

  -- the id of a parent is that of its crate
  abbrev HasId : Parent → Type 0
  HasId p = p.id ≡ id_at g p.place

  mirrored : (x y : Parent) → HasId x → HasId y → parent_cmp x y ≡ Less
      → incoming_cmp g (source_of x) (source_of y) ≡ Less
  unfolding incoming_cmp
  mirrored x y x_id y_id less =
      subst (λ (id : List ℕ). ordering_then (option_cmp (slice_cmp nat_cmp) x.feature y.feature)
      (ordering_then (slice_cmp nat_cmp id (id_at g y.place))
      (ordering_then (option_cmp kind_cmp x.kind y.kind) (nat_cmp x.place y.place))) ≡ Less) x_id
      (subst (λ (id : List ℕ). ordering_then (option_cmp (slice_cmp nat_cmp) x.feature y.feature)
      (ordering_then (slice_cmp nat_cmp x.id id)
      (ordering_then (option_cmp kind_cmp x.kind y.kind) (nat_cmp x.place y.place))) ≡ Less) y_id less)

  -- the collected sources of a node, put in order, are those of the edges that end at it
  pub incoming_are : (node : Node) (c : Crate) (old ps : List Parent) → slice_get g.crates node.place ≡ Some c
      → Lists parent_cmp (Contains old) ps
      → ((p : Parent) → Contains old p ↔ Contains (map (parent_of g) (sources_at g node.feature c)) p)
      → map source_of ps ≡ incoming_in g node
  unfolding incoming_in
  incoming_are node c old ps at listed same = rw at (in_order_is (incoming_cmp g) incoming_cmp-total incoming_cmp-exact
      (sources_at g node.feature c) (map source_of ps) (record {
        ascending = ascends_map parent_cmp (incoming_cmp g) source_of HasId ps mirrored
            (λ p is. has_id p (listed.sound p is)) listed.ascending;
        whole = λ i is. contains_map source_of ps (parent_of g i)
            (listed.whole (parent_of g i) ((same (parent_of g i)).1
            (contains_map (parent_of g) (sources_at g node.feature c) i is)));
        sound = λ i is.
            let from = Contains-from_map source_of ps i is in
            let of = Contains-from_map (parent_of g) (sources_at g node.feature c) from.from
            ((same from.from).0 (listed.sound from.from from.member)) in
            subst (λ (j : Incoming). Contains (sources_at g node.feature c) j) (ap source_of of.is ∙ from.is) of.member;
      }))
    where
      has_id : (p : Parent) → Contains old p → HasId p
      has_id p is =
          let of = Contains-from_map (parent_of g) (sources_at g node.feature c) p ((same p).0 is) in
          subst (λ (q : Parent). HasId q) of.is refl

-- ---- direct dependents, by the rows that the graph keeps

-- the sources that the crate of a row gives
abbrev pub of_row : Graph → (Crate → List Incoming) → DirectDependent → List Incoming
of_row g sources d = option_map_or sources (slice_get g.crates d.place) []

abbrev pub by_kinds : (Crate → DepKind → List Incoming) → Crate → List Incoming
by_kinds sources p = flat_map (sources p) all_kinds

module _ (g : Graph) (placed : HavePlaces g) where
  pub dependent_at : (place : ℕ) (p : Crate) → Contains (dependents g place) p → slice_get g.crates p.place ≡ Some p
  unfolding dependents
  dependent_at place p is =
      let at = there g.crates p
      (Contains-from_filter (λ (q : Crate). list_any (leads q.place place) g.edges) g.crates p is).0 in
      subst (λ (n : ℕ). slice_get g.crates n ≡ Some p) (sym (placed.each at.0 p at.1)) at.1

  -- the sources that rows give are those of direct dependents
  rows_are : (c : Crate) (ds : List DirectDependent) (sources : Crate → DepKind → List Incoming)
      → AreDirectDependents g c.place ds → (i : Incoming)
      → Contains (flat_map (of_row g (by_kinds sources)) ds) i ↔ Contains (of_parents g c sources) i
  unfolding of_parents
  rows_are c ds sources rows i = (
    (λ is.
        let of = Contains-from_flat_map (of_row g (by_kinds sources)) ds i is in
        let among = All-contains
        (λ (d : DirectDependent). Contains (map (λ (p : Crate). p.place) (dependents g c.place)) d.place)
        ds of.from rows.sound of.member in
        let p = Contains-from_map (λ (p : Crate). p.place) (dependents g c.place) of.from.place among in
        let at : slice_get g.crates of.from.place ≡ Some p.from =
        subst (λ (n : ℕ). slice_get g.crates n ≡ Some p.from) p.is (dependent_at c.place p.from p.member) in
        Contains-flat_map (by_kinds sources) (dependents g c.place) p.from i p.member
        (subst (λ (o : Option Crate). Contains (option_map_or (by_kinds sources) o []) i) at of.of)),
    (λ is.
        let of = Contains-from_flat_map (by_kinds sources) (dependents g c.place) i is in
        let among = All-contains (λ (p : Crate). Contains (map (λ (d : DirectDependent). d.place) ds) p.place)
        (dependents g c.place) of.from rows.whole of.member in
        let d = Contains-from_map (λ (d : DirectDependent). d.place) ds of.from.place among in
        let at : slice_get g.crates d.from.place ≡ Some of.from =
        subst (λ (n : ℕ). slice_get g.crates n ≡ Some of.from) (sym d.is) (dependent_at c.place of.from of.member) in
        Contains-flat_map (of_row g (by_kinds sources)) ds d.from i d.member
        (subst (λ (o : Option Crate). Contains (option_map_or (by_kinds sources) o []) i) (sym at) of.of)),
  )

  both_are : (own xs ys : List Incoming) → ((i : Incoming) → Contains xs i → Contains ys i) → (p : Parent)
      → Contains (map (parent_of g) (own ++ xs)) p → Contains (map (parent_of g) (own ++ ys)) p
  both_are own xs ys each p is =
      let of = Contains-from_map (parent_of g) (own ++ xs) p is in
      subst (λ (q : Parent). Contains (map (parent_of g) (own ++ ys)) q) of.is
      (contains_map (parent_of g) (own ++ ys) of.from
      (elim (Contains-append_cases own xs of.from of.member) as (λ _. Contains (own ++ ys) of.from) [
        | inl first ↦ Contains-append_left own ys of.from first
        | inr later ↦ Contains-append_right own ys of.from (each of.from later)
      ]))

  pub gathered_are : (own : List Incoming) (c : Crate) (ds : List DirectDependent)
      (sources : Crate → DepKind → List Incoming) → AreDirectDependents g c.place ds → (p : Parent)
      → Contains (map (parent_of g) (own ++ flat_map (of_row g (by_kinds sources)) ds)) p
      ↔ Contains (map (parent_of g) (own ++ of_parents g c sources)) p
  gathered_are own c ds sources rows p = (
    both_are own (flat_map (of_row g (by_kinds sources)) ds) (of_parents g c sources)
        (λ i. (rows_are c ds sources rows i).0) p,
    both_are own (of_parents g c sources) (flat_map (of_row g (by_kinds sources)) ds)
        (λ i. (rows_are c ds sources rows i).1) p,
  )

-- ---- tests of declarations and edges

-- a test of the declarations that resolve
pub any_declared : (g : Graph) (p c : Crate) (run : List ResolvedAt) (test : Dependency → Bool)
    → slice_get g.crates p.place ≡ Some p → AreBetween g c.place p.place run
    → list_any (passes_there p.deps test) run ≡ list_any test (declared g p c)
unfolding declared resolves_to
any_declared g p c run test at between = tests_agree (list_any (passes_there p.deps test) run)
    (list_any test (declared g p c)) there_is back
  where
    declares_here : (index : ℕ) → declaration_at g p.place index ≡ slice_get p.deps index
    declares_here index = ap (option_and_then (λ (x : Crate). slice_get x.deps index)) at

    by_declaration : (r : ResolvedAt) → IsResolvedAt g r → r.child ≡ c.place → r.parent ≡ p.place
        → (o : Option Dependency) → slice_get p.deps r.index ≡ o → option_map_or test o false ≡ true
        → list_any test (declared g p c) ≡ true
    by_declaration r resolved child parent None is passes = absurd (cc passes)
    by_declaration r resolved child parent (Some d) is passes =
        let resolves : resolution g p.place d ≡ Some c.place =
        sym (ap (option_and_then (resolution g p.place)) (declares_here r.index ∙ is))
        ∙ (subst (λ (n : ℕ). option_and_then (resolution g n) (declaration_at g n r.index) ≡ Some r.child) parent
        resolved
        ∙ ap (λ n. Some n) child) in
        any_from test (declared g p c) d
        (Contains-filter (resolves_to g p c) p.deps d (from_there p.deps r.index d is)
        (ap (λ o. option_map_or (λ place. place == c.place) o false) resolves ∙ eq-eqb c.place c.place refl)) passes

    there_is : list_any (passes_there p.deps test) run ≡ true → list_any test (declared g p c) ≡ true
    there_is is =
        let one = any_passes (passes_there p.deps test) run is in
        let known = between.sound one.one one.member in
        by_declaration one.one known.2 known.0 known.1 (slice_get p.deps one.one.index) refl one.passes

    by_resolution : (o : Option ℕ) → option_map_or (λ place. place == c.place) o false ≡ true → o ≡ Some c.place
    by_resolution None is = absurd (cc is)
    by_resolution (Some n) is = ap (λ m. Some m) (eqb-true n c.place is)

    back : list_any test (declared g p c) ≡ true → list_any (passes_there p.deps test) run ≡ true
    back is =
        let one = any_passes test (declared g p c) is in
        let kept = Contains-from_filter (resolves_to g p c) p.deps one.one one.member in
        let here = there p.deps one.one kept.0 in
        let resolves : resolution g p.place one.one ≡ Some c.place =
        by_resolution (resolution g p.place one.one) kept.1 in
        any_from (passes_there p.deps test) run (resolved_to p.place here.0 c.place)
        (between.whole here.0 (ap (option_and_then (resolution g p.place)) (declares_here here.0 ∙ here.1) ∙ resolves))
        (ap (λ o. option_map_or test o false) here.1 ∙ one.passes)

-- the test whether the graph has an edge between two crates
pub edge_asked : (g : Graph) (p c : Crate) (kind : DepKind) (answer : Bool)
    → IsTrue answer ↔ Contains g.edges (record { parent = p.place; child = c.place; kind = kind })
    → answer ≡ has_edge g p c kind
unfolding has_edge leads edge_from
edge_asked g p c kind answer asked = tests_agree answer (has_edge g p c kind)
    (λ is. any_from (λ e. leads p.place c.place e && (kind_number e.kind == kind_number kind)) g.edges
    (edge_from p.place c.place kind) (asked.0 is)
    (and_from (leads p.place c.place (edge_from p.place c.place kind)) (kind_number kind == kind_number kind)
    (and_from (p.place == p.place) (c.place == c.place) (eq-eqb p.place p.place refl) (eq-eqb c.place c.place refl))
    (eq-eqb (kind_number kind) (kind_number kind) refl)))
    (λ is.
    let one = any_passes (λ e. leads p.place c.place e && (kind_number e.kind == kind_number kind)) g.edges is in
    let parts = and_parts (leads p.place c.place one.one) (kind_number one.one.kind == kind_number kind) one.passes in
    let ends = and_parts (one.one.parent == p.place) (one.one.child == c.place) parts.0 in
    let parent = eqb-true one.one.parent p.place ends.0 in
    let child = eqb-true one.one.child c.place ends.1 in
    let same_kind = kind_cmp-exact one.one.kind kind (same_number (kind_number one.one.kind) (kind_number kind)
    (eqb-true (kind_number one.one.kind) (kind_number kind) parts.1)) in
    let same : one.one ≡ edge_from p.place c.place kind = cc (edge_from-is one.one, parent, child, same_kind) in
    asked.1 (subst (λ (e : Edge). Contains g.edges e) same one.member))
  where
    same_number : (m n : ℕ) → m ≡ n → nat_cmp m n ≡ Equal
    same_number m n same = sym (nat_cmp_is m n Equal same)
