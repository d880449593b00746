-- A tree expands each node once.
use Rattle.std.proofs.Common.{◌≡◌, ◌≢◌, ◌∙◌, ℕ, zero, suc, Bool, true, false, cond, List, [], ◌∷◌, ◌++◌, Option, None}
use Rattle.std.proofs.Common.{Some, ap, append-nil, arith, sym, refl, subst, map, ◌&&◌, ◌||◌}
use Rattle.std.specs.Prelude.{AllPairs, option_map}
use Rattle.std.specs.Option.{option_and_then}
use Rattle.std.specs.List.{flat_map, list_all, list_any}
use Rattle.std.proofs.lemmas.Bool.{false_from_ne_true, false≢true}
use Rattle.std.proofs.lemmas.Grind.{flat_map-append}
use Rattle.std.proofs.lemmas.List.{map-append}
use Rattle.std.proofs.lemmas.List.Folds.{list_all-append, list_any-append, list_any_at}
use Rattle.std.proofs.lemmas.List.Kept.{AllPairs-cons}
use Rattle.std.proofs.lemmas.Option.{same_Some}
use Rattle.deny_base_lists.proofs.Filters.{list_all-map}
use Rattle.deny_base.specs.declared.finding.GraphNode as base
use Rattle.deny_krates.specs.Ids.{crate_of}
use Rattle.deny_krates.specs.Nodes.{Incoming, Node, crate_node, feature_node, is_enabled, node_in, node_named}
use Rattle.deny_spec.specs.Graph.{Crate, Graph}
use Rattle.deny_krates_trees.specs.Once.{ExpandsOnce, HeadsOne, ShowsOnce, bare_step, expanded_in, expanded_step}
use Rattle.deny_krates_trees.specs.Once.{repeats_are_bare}
use Rattle.deny_krates_trees.specs.Parents.{parents_in, same_node}
use Rattle.deny_krates_trees.specs.Tree.{GrownTrees, all_levels, graph_of, grow, grow_each, grow_one, headed_tree}
use Rattle.deny_krates_trees.specs.Tree.{inner_at}
use Rattle.deny_krates_trees.specs.Tree.{inner_of, is_met, node_with, start, tree_of}
use Rattle.deny_krates_trees.specs.declared.node.GraphNode.{GraphNode, fold-roll-GraphNode}
use Rattle.deny_krates_trees.specs.declared.node.NodeInner.{NodeInner}
use Rattle.deny_krates_trees.proofs.MetLemmas.{same_node-true, same_node_refl}

flat_map-map : {A B : Type 0} (f : A → List B) (xs : List A) → flat_map (λ ys. ys) (map f xs) ≡ flat_map f xs
flat_map-map f [] = refl
flat_map-map f (x ∷ xs) = ap (λ ys. f x ++ ys) (flat_map-map f xs)

-- the nodes that a tree expands, by its parts
expanded-node : (inner : NodeInner) (parents : List GraphNode)
    → expanded_in (node_with inner false parents) ≡ inner ∷ flat_map expanded_in parents
expanded-node inner parents =
    fold-roll-GraphNode (List NodeInner) expanded_step (record { inner = inner; repeat = false; parents = parents })
    ∙ ap (λ inners. inner ∷ inners) (flat_map-map expanded_in parents)

expanded-repeat : (inner : NodeInner) → expanded_in (node_with inner true []) ≡ []
expanded-repeat inner =
    fold-roll-GraphNode (List NodeInner) expanded_step (record { inner = inner; repeat = true; parents = [] })

bare-node : (inner : NodeInner) (parents : List GraphNode)
    → repeats_are_bare (node_with inner false parents) ≡ list_all repeats_are_bare parents
bare-node inner parents =
    fold-roll-GraphNode Bool bare_step (record { inner = inner; repeat = false; parents = parents })
    ∙ list_all-map repeats_are_bare parents

bare-repeat : (inner : NodeInner) → repeats_are_bare (node_with inner true []) ≡ true
bare-repeat inner = fold-roll-GraphNode Bool bare_step (record { inner = inner; repeat = true; parents = [] })

-- ---- nodes that were not met before

abbrev Apart : List Node → Type 0
Apart [] = Unit {0}
Apart (n ∷ ns) = (is_met ns n ≡ false) × Apart ns

-- trees that were grown after some nodes were met: the nodes that they expand were not met before
pub record Fresh (g : Graph) (met : List Node) (trees : List GraphNode) (after : List Node) : Type 0 where
  pub sources : List Incoming
  pub are : flat_map expanded_in trees ≡ map (inner_of g) sources
  pub apart : Apart (map (λ i. i.node) sources)
  pub new : (n : Node) → is_met (map (λ i. i.node) sources) n ≡ true → is_met met n ≡ false
  pub both : (n : Node) → is_met after n ≡ (is_met (map (λ i. i.node) sources) n || is_met met n)
  pub bare : list_all repeats_are_bare trees ≡ true

apart_both : (ns ms : List Node) → Apart ns → Apart ms → ((n : Node) → is_met ms n ≡ true → is_met ns n ≡ false)
    → Apart (ns ++ ms)
unfolding is_met
apart_both [] ms a b other = b
apart_both (n ∷ ns) ms a b other = (
  list_any-append (same_node n) ns ms ∙ none (is_met ns n) (is_met ms n) a.0 (λ known. no_more known),
  apart_both ns ms a.1 b (λ m known. second (same_node m n) (is_met ns m) (other m known)),
)
  where
    none : (x y : Bool) → x ≡ false → (y ≡ true → ⊥) → (x || y) ≡ false
    none true y e never = cc
    none false true e never = absurd (never refl)
    none false false e never = refl

    second : (x y : Bool) → (x || y) ≡ false → y ≡ false
    second true y e = cc
    second false y e = e

    first : (x y : Bool) → (x || y) ≡ false → x ≡ false
    first true y e = cc
    first false y e = refl

    no_more : is_met ms n ≡ true → ⊥
    no_more known = false≢true (sym (first (same_node n n) (is_met ns n) (other n known)) ∙ same_node_refl n)

-- a tree, and then others
fresh_both : (g : Graph) (met mid after : List Node) (xs ys : List GraphNode) → Fresh g met xs mid
    → Fresh g mid ys after
    → Fresh g met (xs ++ ys) after
unfolding is_met
fresh_both g met mid after xs ys a b = record {
  sources = a.sources ++ b.sources;
  are = flat_map-append expanded_in xs ys ∙ (ap (λ zs. zs ++ flat_map expanded_in ys) a.are
      ∙ (ap (λ zs. map (inner_of g) a.sources ++ zs) b.are ∙ sym (map-append (inner_of g) a.sources b.sources)));
  apart = subst Apart (sym (map-append (λ i. i.node) a.sources b.sources))
      (apart_both (map (λ i. i.node) a.sources) (map (λ i. i.node) b.sources) a.apart b.apart
      (λ n known. first (is_met (map (λ i. i.node) a.sources) n) (is_met met n) (sym (a.both n) ∙ b.new n known)));
  new = λ n known. by_part n (is_met (map (λ i. i.node) a.sources) n) refl (is_met (map (λ i. i.node) b.sources) n) refl
      (sym (joined n) ∙ known);
  both = λ n. b.both n ∙ (ap (λ t. is_met (map (λ i. i.node) b.sources) n || t) (a.both n)
      ∙ (turned (is_met (map (λ i. i.node) b.sources) n) (is_met (map (λ i. i.node) a.sources) n) (is_met met n)
      ∙ ap (λ t. t || is_met met n) (sym (joined n))));
  bare = list_all-append repeats_are_bare xs ys ∙ (ap (λ t. t && list_all repeats_are_bare ys) a.bare ∙ b.bare);
}
  where
    joined : (n : Node) → is_met (map (λ i. i.node) (a.sources ++ b.sources)) n
        ≡ (is_met (map (λ i. i.node) a.sources) n || is_met (map (λ i. i.node) b.sources) n)
    joined n = ap (list_any (same_node n)) (map-append (λ i. i.node) a.sources b.sources)
        ∙ list_any-append (same_node n) (map (λ i. i.node) a.sources) (map (λ i. i.node) b.sources)

    first : (x y : Bool) → (x || y) ≡ false → x ≡ false
    first true y e = cc
    first false y e = refl

    second : (x y : Bool) → (x || y) ≡ false → y ≡ false
    second true y e = cc
    second false y e = e

    turned : (x y z : Bool) → (x || (y || z)) ≡ ((y || x) || z)
    turned true true z = refl
    turned true false z = refl
    turned false true z = refl
    turned false false z = refl

    by_part : (n : Node) (x : Bool) → is_met (map (λ i. i.node) a.sources) n ≡ x → (y : Bool)
        → is_met (map (λ i. i.node) b.sources) n ≡ y
        → (is_met (map (λ i. i.node) a.sources) n || is_met (map (λ i. i.node) b.sources) n) ≡ true → is_met met n
        ≡ false
    by_part n true is y is' known = a.new n is
    by_part n false is true is' known = second (is_met (map (λ i. i.node) a.sources) n) (is_met met n)
        (sym (a.both n) ∙ b.new n is')
    by_part n false is false is' known = absurd (false≢true (sym (ap (λ t. t || is_met (map
        (λ i. i.node) b.sources) n) is
        ∙ is') ∙ known))

fresh_none : (g : Graph) (met : List Node) → Fresh g met [] met
unfolding is_met
fresh_none g met = record { sources = []; are = refl; apart = tt; new = λ n known. cc; both = λ n. refl; bare = refl }

fresh_repeat : (g : Graph) (met : List Node) (inner : NodeInner) → Fresh g met (node_with inner true [] ∷ []) met
unfolding is_met
fresh_repeat g met inner = record {
  sources = [];
  are = ap (λ inners. inners ++ []) (expanded-repeat inner);
  apart = tt;
  new = λ n known. cc;
  both = λ n. refl;
  bare = ap (λ b. b && true) (bare-repeat inner);
}

fresh_new : (g : Graph) (met after : List Node) (i : Incoming) (trees : List GraphNode) → is_met met i.node ≡ false
    → Fresh g (i.node ∷ met) trees after → Fresh g met (node_with (inner_of g i) false trees ∷ []) after
unfolding is_met
fresh_new g met after i trees unmet fresh = record {
  sources = i ∷ fresh.sources;
  are = append-nil (expanded_in (node_with (inner_of g i) false trees))
      ∙ (expanded-node (inner_of g i) trees ∙ ap (λ inners. inner_of g i ∷ inners) fresh.are);
  apart = (false_from_ne_true (is_met (map (λ j. j.node) fresh.sources) i.node) not_among, fresh.apart);
  new = λ n known. by_first n (same_node n i.node) refl known;
  both = λ n. fresh.both n ∙ turned (is_met (map (λ j. j.node) fresh.sources) n) (same_node n i.node) (is_met met n);
  bare = ap (λ b. b && true) (bare-node (inner_of g i) trees ∙ fresh.bare);
}
  where
    turned : (x y z : Bool) → (x || (y || z)) ≡ ((y || x) || z)
    turned true true z = refl
    turned true false z = refl
    turned false true z = refl
    turned false false z = refl

    second : (x y : Bool) → (x || y) ≡ false → y ≡ false
    second true y e = cc
    second false y e = e

    not_among : is_met (map (λ j. j.node) fresh.sources) i.node ≡ true → ⊥
    not_among known = false≢true (sym (fresh.new i.node known)
        ∙ ap (λ b. b || is_met met i.node) (same_node_refl i.node))

    by_first : (n : Node) (b : Bool) → same_node n i.node ≡ b
        → (same_node n i.node || is_met (map (λ j. j.node) fresh.sources) n) ≡ true → is_met met n ≡ false
    by_first n true is known = subst (λ m. is_met met m ≡ false) (sym (same_node-true n i.node is)) unmet
    by_first n false is known = second (same_node n i.node) (is_met met n)
        (fresh.new n (sym (ap (λ b. b || is_met (map (λ j. j.node) fresh.sources) n) is) ∙ known))

module _ (g : Graph) (above : List Node → Node → GrownTrees)
    (fresh : (met : List Node) (node : Node) → Fresh g met (above met node).trees (above met node).met) where
  one_fresh : (met : List Node) (i : Incoming) (b : Bool) → is_met met i.node ≡ b
      → Fresh g met ((grow_one g above b met i).tree ∷ []) (grow_one g above b met i).met
  one_fresh met i true is = fresh_repeat g met (inner_of g i)
  one_fresh met i false is =
      fresh_new g met (above (i.node ∷ met) i.node).met i (above (i.node ∷ met) i.node).trees is
      (fresh (i.node ∷ met) i.node)

  each_fresh : (is : List Incoming) (met : List Node)
      → Fresh g met (grow_each g above met is).trees (grow_each g above met is).met
  unfolding grow_each
  each_fresh [] met = fresh_none g met
  each_fresh (i ∷ is) met =
      let first = grow_one g above (is_met met i.node) met i in
      let rest = grow_each g above first.met is in
      fresh_both g met first.met rest.met (first.tree ∷ []) rest.trees (one_fresh met i (is_met met i.node) refl)
      (each_fresh is first.met)

pub grow_fresh : (g : Graph) (most : Option ℕ) (levels depth : ℕ) (met : List Node) (node : Node)
    → Fresh g met (grow g most levels depth met node).trees (grow g most levels depth met node).met
unfolding grow
grow_fresh g most zero depth met node = fresh_none g met
grow_fresh g most (suc levels) depth met node =
    each_fresh g (grow g most levels (suc depth)) (grow_fresh g most levels (suc depth))
    (parents_in g most depth node) met

all_apart : (ns : List Node) → Apart ns → AllPairs (λ a b. a ≢ b) ns
unfolding is_met
all_apart [] apart = λ i j d less within. absurd (omega (arith, within))
all_apart (n ∷ ns) apart = AllPairs-cons (λ a b. a ≢ b) n ns
    (λ k d within same. false≢true (sym apart.0 ∙ list_any_at (same_node n) ns k d within
    (subst (λ m. same_node n m ≡ true) same (same_node_refl n)))) (all_apart ns apart.1)

and_true : (b : Bool) → (b && true) ≡ true → b ≡ true
and_true true e = refl
and_true false e = e

expands_once : (g : Graph) (most : Option ℕ) (node : Node) → ExpandsOnce g (tree_of g most node)
unfolding tree_of is_met
expands_once g most node =
    let grown = grow g most (all_levels g) 0 (node ∷ []) node in
    let fresh = fresh_new g [] grown.met (start node) grown.trees refl
    (grow_fresh g most (all_levels g) 0 (node ∷ []) node) in
    record {
      sources = fresh.sources;
      are = sym (append-nil (expanded_in (tree_of g most node))) ∙ fresh.are;
      once = all_apart (map (λ i. i.node) fresh.sources) fresh.apart;
      bare = and_true (repeats_are_bare (tree_of g most node)) fresh.bare;
    }

-- the tree that is shown of a node, of a crate or of a feature under its heading, expands each node once
pub shows_once : (g : Graph) (most : Option ℕ) (shown : base.GraphNode) (tree : GraphNode)
    → Some tree ≡ graph_of g most shown → ShowsOnce g shown.feature tree
unfolding graph_of headed_tree node_named node_in
shows_once g most shown tree is = by_crate shown.feature (crate_of g shown.kid.0) is
  where
    by_test : (c : Crate) (f : List ℕ) (b : Bool)
        → Some tree ≡ option_map (headed_tree g most) (cond b (Some (feature_node c f)) None) → HeadsOne g tree
    by_test c f true e = record {
      heading = inner_at g c.place None None;
      below = tree_of g most (feature_node c f);
      is = same_Some tree (headed_tree g most (feature_node c f)) e;
      once = expands_once g most (feature_node c f);
    }
    by_test c f false e = cc

    by_crate : (feature : Option (List ℕ)) (o : Option Crate)
        → Some tree ≡ option_map (headed_tree g most) (option_and_then (node_in feature) o) → ShowsOnce g feature tree
    by_crate None None e = cc
    by_crate (Some f) None e = cc
    by_crate None (Some c) e = subst (ExpandsOnce g) (sym (same_Some tree (headed_tree g most (crate_node c)) e))
        (expands_once g most (crate_node c))
    by_crate (Some f) (Some c) e = by_test c f (is_enabled c f) e
