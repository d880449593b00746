-- The levels of a tree are enough: each node of the graph occurs at most once on a path up the tree, so that growing it
-- higher changes nothing.
use Rattle.std.proofs.Common.{◌≡◌, ◌∙◌, ◌<◌, ◌≤◌, ℕ, zero, suc, Bool, true, false, List, [], ◌∷◌, Option, None, Some}
use Rattle.std.proofs.Common.{ap, sym, subst, refl, arith, inl, inr, flat_map, length, map, ◌||◌}
use Rattle.std.specs.Prelude.{Contains, cond, filter, not, slice_get}
use Rattle.std.specs.Option.{option_map_or}
use Rattle.std.proofs.lemmas.Bool.{cases_Bool}
use Rattle.std.proofs.lemmas.List.Elements.{Contains-append_cases, Contains-append_left, Contains-append_right}
use Rattle.std.proofs.lemmas.List.Sums.{count_by-le-length, length-filter}
use Rattle.deny_base.specs.declared.edge.DepKind.{DepKind}
use Rattle.deny_base_lists.proofs.Members.{Contains-cases, Contains-first, Contains-flat_map, Contains-from_flat_map}
use Rattle.deny_base_lists.proofs.Members.{Contains-from_map}
use Rattle.deny_base_lists.proofs.Members.{Contains-rest, contains_map, filtered, from_there, no_member}
use Rattle.deny_krates.specs.Nodes.{Incoming, Node, all_kinds, crate_node, feature_leads, feature_node, feature_nodes}
use Rattle.deny_krates.specs.Nodes.{from_crate, from_feature, from_own, holds_plain, incoming_cmp, incoming_in}
use Rattle.deny_krates.specs.Nodes.{leads_by_asking}
use Rattle.deny_krates.specs.Nodes.{leads_in_vain, leads_undeclared, nodes_of, of_parents, own_features, own_leading}
use Rattle.deny_krates.specs.Nodes.{sources_at, sources_of_crate, sources_of_feature}
use Rattle.deny_krates.proofs.InOrderLemmas.{lists_in_order}
use Rattle.deny_spec.specs.Graph.{Crate, Graph, dependents}
use Rattle.deny_krates_trees.specs.Parents.{dependents_in, dependents_of, is_below, least_kind, parents_if, parents_in}
use Rattle.deny_krates_trees.specs.Tree.{GrownTrees, all_levels, expanded, grow, grow_each, inner_of, is_met, node_with}
use Rattle.deny_krates_trees.specs.Tree.{start}
use Rattle.deny_krates_trees.specs.Tree.{tree_of, tree_to}
use Rattle.deny_krates_trees.proofs.DependentLemmas.{sources_exact, sources_total}
use Rattle.deny_krates_trees.proofs.GrowingLemmas.{grow_each-new, grow_each-repeat}
use Rattle.deny_krates_trees.proofs.MetLemmas.{same_node_refl}
use Rattle.deny_krates_trees.proofs.OnceLemmas.{grow_fresh}

-- ---- the number of items that pass a test

module _ {X : Type 0} (p q : X → Bool) (so : (x : X) → p x ≡ true → q x ≡ true) where
  no_more_by : (a b : Bool) (x : X) (some all : List X) → (a ≡ true → b ≡ true) → length some ≤ length all
      → length (cond a (x ∷ some) some) ≤ length (cond b (x ∷ all) all)
  no_more_by true true x some all is few = omega (arith, few)
  no_more_by true false x some all is few = absurd (cc (is refl))
  no_more_by false true x some all is few = omega (arith, few)
  no_more_by false false x some all is few = few

  no_more : (xs : List X) → length (filter p xs) ≤ length (filter q xs)
  no_more [] = omega arith
  no_more (x ∷ xs) = no_more_by (p x) (q x) x (filter p xs) (filter q xs) (so x) (no_more xs)

  fewer_by : (a b : Bool) (x : X) (some all : List X) → (a ≡ true → b ≡ true) → length some < length all
      → length (cond a (x ∷ some) some) < length (cond b (x ∷ all) all)
  fewer_by true true x some all is few = omega (arith, few)
  fewer_by true false x some all is few = absurd (cc (is refl))
  fewer_by false true x some all is few = omega (arith, few)
  fewer_by false false x some all is few = few

  fewer_here : (a b : Bool) (x : X) (some all : List X) → a ≡ false → b ≡ true → length some ≤ length all
      → length (cond a (x ∷ some) some) < length (cond b (x ∷ all) all)
  fewer_here true b x some all out within few = absurd (cc out)
  fewer_here false true x some all out within few = omega (arith, few)
  fewer_here false false x some all out within few = absurd (cc within)

  fewer : (xs : List X) (y : X) → Contains xs y → p y ≡ false → q y ≡ true
      → length (filter p xs) < length (filter q xs)
  fewer [] y among out within = absurd (no_member y among)
  fewer (x ∷ xs) y among out within = elim (Contains-cases x xs y among)
      as (λ _. length (filter p (x ∷ xs)) < length (filter q (x ∷ xs))) [
        | inl here ↦
            fewer_here (p x) (q x) x (filter p xs) (filter q xs) (ap p here ∙ out) (ap q here ∙ within) (no_more xs)
        | inr later ↦ fewer_by (p x) (q x) x (filter p xs) (filter q xs) (so x) (fewer xs y later out within)
      ]

-- ---- the nodes above a node are nodes of the graph

module _ (g : Graph) where
  abbrev IsOf : Incoming → Type 0
  IsOf i = Contains (nodes_of g) i.node

  crate_of : (c : Crate) → Contains g.crates c → Contains (nodes_of g) (crate_node c)
  unfolding nodes_of
  crate_of c member = Contains-append_left (map crate_node g.crates) _ (crate_node c)
      (contains_map crate_node g.crates c member)

  feature_of : (c : Crate) (f : List ℕ) → Contains g.crates c → Contains c.enabled f
      → Contains (nodes_of g) (feature_node c f)
  unfolding nodes_of
  feature_of c f member enabled = Contains-append_right (map crate_node g.crates) _ (feature_node c f)
      (Contains-flat_map feature_nodes g.crates c (feature_node c f) member
      (contains_map (feature_node c) c.enabled f enabled))

  dependent_of : (place : ℕ) (p : Crate) → Contains (dependents g place) p → Contains g.crates p
  unfolding dependents
  dependent_of place p is = filtered _ g.crates p is

  of_one : (b : Bool) (one i : Incoming) → IsOf one → Contains (cond b (one ∷ []) []) i → IsOf i
  of_one true one i is among = elim (Contains-cases one [] i among) as (λ _. IsOf i) [
    | inl here ↦ subst IsOf here is
    | inr later ↦ absurd (no_member i later)
  ]
  of_one false one i is among = absurd (no_member i among)

  of_crate : (c p : Crate) (kind : DepKind) (i : Incoming) → Contains g.crates p
      → Contains (sources_of_crate g c p kind) i → IsOf i
  unfolding sources_of_crate
  of_crate c p kind i member among =
      of_one (leads_in_vain g c p kind || leads_undeclared g c p kind) (from_crate p kind) i (crate_of p member) among

  of_feature : (c : Crate) (f : List ℕ) (p : Crate) (kind : DepKind) (i : Incoming) → Contains g.crates p
      → Contains (sources_of_feature g c f p kind) i → IsOf i
  unfolding sources_of_feature
  of_feature c f p kind i member among =
      let leading = filter (feature_leads g c f p kind) p.enabled in
      elim (Contains-append_cases (cond (leads_by_asking g c f p kind) (from_crate p kind ∷ []) [])
      (map (from_feature p kind) leading) i among) as (λ _. IsOf i) [
        | inl asked ↦ of_one (leads_by_asking g c f p kind) (from_crate p kind) i (crate_of p member) asked
        | inr led ↦ let from = Contains-from_map (from_feature p kind) leading i led in
            subst IsOf from.is
            (feature_of p from.from member (filtered (feature_leads g c f p kind) p.enabled from.from from.member))
      ]

  of_some_parent : (c : Crate) (sources : Crate → DepKind → List Incoming)
      → ((p : Crate) (kind : DepKind) (i : Incoming) → Contains g.crates p → Contains (sources p kind) i → IsOf i)
      → (i : Incoming) → Contains (of_parents g c sources) i → IsOf i
  unfolding of_parents
  of_some_parent c sources each i among =
      let parent =
      Contains-from_flat_map (λ (p : Crate). flat_map (sources p) all_kinds) (dependents g c.place) i among in
      let of = Contains-from_flat_map (sources parent.from) all_kinds i parent.of in
      each parent.from of.from i (dependent_of c.place parent.from parent.member) of.of

  of_own : (c : Crate) (fs : List (List ℕ)) (i : Incoming) → Contains g.crates c
      → ((f : List ℕ) → Contains fs f → Contains c.enabled f) → Contains (map (from_own c) fs) i → IsOf i
  of_own c fs i member enabled among =
      let from = Contains-from_map (from_own c) fs i among in
      subst IsOf from.is (feature_of c from.from member (enabled from.from from.member))

  of_sources : (feature : Option (List ℕ)) (c : Crate) (i : Incoming) → Contains g.crates c
      → Contains (sources_at g feature c) i → IsOf i
  unfolding sources_at own_features own_leading
  of_sources None c i member among =
      elim (Contains-append_cases (own_features c) (of_parents g c (sources_of_crate g c)) i among) as (λ _. IsOf i) [
        | inl own ↦ of_own c c.enabled i member (λ f is. is) own
        | inr led ↦ of_some_parent c (sources_of_crate g c) (of_crate c) i led
      ]
  of_sources (Some feature) c i member among =
      elim (Contains-append_cases (own_leading c feature) (of_parents g c (sources_of_feature g c feature)) i among)
      as (λ _. IsOf i) [
        | inl own ↦ of_own c (filter (holds_plain c feature) c.enabled) i member
            (λ f is. filtered (holds_plain c feature) c.enabled f is) own
        | inr led ↦ of_some_parent c (sources_of_feature g c feature) (of_feature c feature) i led
      ]

  of_dependents : (c : Crate) (i : Incoming) → Contains (dependents_of g c) i → IsOf i
  unfolding dependents_of
  of_dependents c i among =
      let made = map (λ (p : Crate). from_crate p (least_kind g p c)) (dependents g c.place) in
      let from = Contains-from_map (λ (p : Crate). from_crate p (least_kind g p c)) (dependents g c.place) i
      ((lists_in_order (incoming_cmp g) (sources_total g) (sources_exact g) made).sound i among) in
      subst IsOf from.is (crate_of from.from (dependent_of c.place from.from from.member))

  of_incoming : (node : Node) (i : Incoming) → Contains (incoming_in g node) i → IsOf i
  unfolding incoming_in
  of_incoming node i among = by (slice_get g.crates node.place) refl
      ((lists_in_order (incoming_cmp g) (sources_total g) (sources_exact g) _).sound i among)
    where
      by : (o : Option Crate) → slice_get g.crates node.place ≡ o
          → Contains (option_map_or (sources_at g node.feature) o []) i → IsOf i
      by None at is = absurd (no_member i is)
      by (Some c) at is = of_sources node.feature c i (from_there g.crates node.place c at) is

  of_direct : (node : Node) (i : Incoming) → Contains (dependents_in g node) i → IsOf i
  unfolding dependents_in
  of_direct node i among = by (slice_get g.crates node.place) among
    where
      by : (o : Option Crate) → Contains (option_map_or (dependents_of g) o []) i → IsOf i
      by None is = absurd (no_member i is)
      by (Some c) is = of_dependents c i is

  of_graph : (most : Option ℕ) (depth : ℕ) (node : Node) (i : Incoming) → Contains (parents_in g most depth node) i
      → IsOf i
  unfolding parents_in
  of_graph most depth node i among = by (is_below most depth) among
    where
      by : (b : Bool) → Contains (parents_if b g node) i → IsOf i
      by true is = of_incoming node i is
      by false is = of_direct node i is

  -- ---- nodes that were not met

  abbrev is_new : List Node → Node → Bool
  is_new met n = not (is_met met n)

  abbrev unmet : List Node → ℕ
  unmet met = length (filter (is_new met) (nodes_of g))

  abbrev Keeps : List Node → List Node → Type 0
  Keeps met after = (n : Node) → is_met met n ≡ true → is_met after n ≡ true

  not_before : (a b : Bool) → (a ≡ true → b ≡ true) → not b ≡ true → not a ≡ true
  not_before true b so is = absurd (cc (ap not (so refl), is))
  not_before false b so is = refl

  unmet_after : (met after : List Node) → Keeps met after → unmet after ≤ unmet met
  unmet_after met after keeps = no_more (is_new after) (is_new met)
      (λ n. not_before (is_met met n) (is_met after n) (keeps n)) (nodes_of g)

  or_later : (a b : Bool) → b ≡ true → (a || b) ≡ true
  or_later true b is = refl
  or_later false b is = is

  unmet_less : (met : List Node) (n : Node) → Contains (nodes_of g) n → is_met met n ≡ false
      → unmet (n ∷ met) < unmet met
  unfolding is_met
  unmet_less met n among new = fewer (is_new (n ∷ met)) (is_new met)
      (λ m. not_before (is_met met m) (is_met (n ∷ met) m) (or_later _ (is_met met m)))
      (nodes_of g) n among (ap (λ (b : Bool). not (b || is_met met n)) (same_node_refl n)) (ap not new)

  -- ---- the same trees

  abbrev Agree : ℕ → (List Node → Node → GrownTrees) → (List Node → Node → GrownTrees) → Type 0
  Agree levels low high = (met : List Node) (node : Node) → unmet met < levels → low met node ≡ high met node

  module _ (levels : ℕ) (low high : List Node → Node → GrownTrees) (agree : Agree levels low high)
      (keeps : (met : List Node) (node : Node) → Keeps met (high met node).met) where
    each_same : (is : List Incoming) (met : List Node) → ((i : Incoming) → Contains is i → IsOf i)
        → unmet met < suc levels → grow_each g low met is ≡ grow_each g high met is
    unfolding grow_each
    each_same [] met of few = refl
    each_same (i ∷ is) met of few = elim (cases_Bool (is_met met i.node))
        as (λ _. grow_each g low met (i ∷ is) ≡ grow_each g high met (i ∷ is)) [
          | inl met_before ↦ grow_each-repeat g low met i is met_before
              ∙ (ap (λ (rest : GrownTrees). record {
                trees = node_with (inner_of g i) true [] ∷ rest.trees;
                met = rest.met;
              }) (each_same is met (λ j among. of j (Contains-rest i is j among)) few)
              ∙ sym (grow_each-repeat g high met i is met_before))
          | inr new ↦
              let less = unmet_less met i.node (of i (Contains-first i is)) new in
              let after = (high (i.node ∷ met) i.node).met in
              let no_more = unmet_after (i.node ∷ met) after (keeps (i.node ∷ met) i.node) in
              grow_each-new g low met i is new
              ∙ (ap (λ (above : GrownTrees). record {
                trees = node_with (inner_of g i) false above.trees ∷ (grow_each g low above.met is).trees;
                met = (grow_each g low above.met is).met;
              }) (agree (i.node ∷ met) i.node (omega (arith, less, few)))
              ∙ (ap (λ (rest : GrownTrees). record {
                trees = node_with (inner_of g i) false (high (i.node ∷ met) i.node).trees ∷ rest.trees;
                met = rest.met;
              }) (each_same is after (λ j among. of j (Contains-rest i is j among)) (omega (arith, less, few, no_more)))
              ∙ sym (grow_each-new g high met i is new)))
        ]

  grow_keeps : (most : Option ℕ) (levels depth : ℕ) (met : List Node) (node : Node)
      → Keeps met (grow g most levels depth met node).met
  grow_keeps most levels depth met node n is =
      (grow_fresh g most levels depth met node).both n ∙ or_later _ (is_met met n) is

  enough : (most : Option ℕ) (levels higher depth : ℕ) (met : List Node) (node : Node) → levels ≤ higher
      → unmet met < levels → grow g most levels depth met node ≡ grow g most higher depth met node
  unfolding grow
  enough most zero higher depth met node high few = absurd (omega (arith, few))
  enough most (suc levels) zero depth met node high few = absurd (omega (arith, high))
  enough most (suc levels) (suc higher) depth met node high few =
      each_same levels (grow g most levels (suc depth)) (grow g most higher (suc depth))
      (λ more n less. enough most levels higher (suc depth) more n (omega (arith, high)) less)
      (grow_keeps most higher (suc depth)) (parents_in g most depth node) met (of_graph most depth node) few

-- growing trees higher changes nothing
pub levels_enough : (g : Graph) (most : Option ℕ) (node : Node) (levels : ℕ) → all_levels g ≤ levels
    → tree_to g most levels node ≡ tree_of g most node
unfolding tree_of
levels_enough g most node levels high =
    ap (λ (grown : GrownTrees). (expanded g (start node) grown).tree)
    (sym (enough g most (all_levels g) levels 0 (node ∷ []) node high
    (omega (
      arith,
      length-filter (is_new g (node ∷ [])) (nodes_of g),
      count_by-le-length (is_new g (node ∷ [])) (nodes_of g),
    ))))
