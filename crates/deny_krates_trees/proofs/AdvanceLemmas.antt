-- Steps of growing a tree: the trees that open nodes grow to stay the same, and less work is left.
use Rattle.std.proofs.Common.{◌≡◌, ◌≢◌, ◌∙◌, ◌+◌, ◌-◌, ◌^◌, ◌<◌, ◌≤◌, ℕ, suc, true, false, cond, List, [], ◌∷◌, ◌++◌}
use Rattle.std.proofs.Common.{Option, Some, ap, sym, refl, subst, arith, get_or, length, length-append, drop, map}
use Rattle.std.proofs.Common.{add-one, append_assoc}
use Rattle.std.specs.Prelude.{All, AllPairs}
use Rattle.std.specs.BTreeMap.{is_at}
use Rattle.std.specs.BTreeSet.{insert_key}
use Rattle.std.specs.List.{list_any}
use Rattle.std.specs.List.Sorted.{IsStrictlySortedBy}
use Rattle.std.specs.Ordering.{nat_cmp}
use Rattle.std.proofs.Math.Seq.{drop-cons}
use Rattle.std.proofs.lemmas.List.{drop_all}
use Rattle.std.proofs.lemmas.List.Elements.{All-get_or, All-pop, All-push}
use Rattle.std.proofs.lemmas.List.Sums.{sum_by_push}
use Rattle.std.proofs.lemmas.Map.Views.{All-insert_key, length-le_from_below}
use Rattle.deny_krates.specs.Nodes.{Node, incoming_at, node_at, nodes_of}
use Rattle.deny_krates.specs.declared.nodes.InEdge.{InEdge}
use Rattle.deny_spec.specs.Graph.{Graph}
use Rattle.deny_krates_trees.specs.declared.build.Open.{Open}
use Rattle.deny_krates_trees.specs.declared.node.GraphNode.{GraphNode}
use Rattle.deny_krates_trees.specs.Parents.{parents_in}
use Rattle.deny_krates_trees.specs.Tree.{all_levels, grow, grow_each, inner_of, is_met, node_with, start, tree_of}
use Rattle.deny_krates_trees.specs.private.Growing.{Advances, AreMet, AreOpen, GrowToTree, IsInside, IsOpened, grow_at}
use Rattle.deny_krates_trees.specs.private.Growing.{grown_from, left_of, still_open, work}
use Rattle.deny_krates_trees.proofs.GrowingLemmas.{grow_at-next, grown_from-same, step-close, step-end, step-open}
use Rattle.deny_krates_trees.proofs.GrowingLemmas.{step-repeat}
use Rattle.deny_krates_trees.proofs.MetLemmas.{met_more}

length-push : {T : Type 0} (xs : List T) (x : T) → length (xs ++ x ∷ []) ≡ length xs + 1
length-push xs x = length-append xs (x ∷ [])

-- an edge is the next parent of an open node, and another open node has the parents behind it left
pub record IsNext (top : Open) (edge : InEdge) : Type 0 where
  pub within : top.next < length top.parents
  pub is : edge ≡ get_or top.parents top.next edge

still_open-next : (g : Graph) (top : Open) (edge : InEdge) → IsNext top edge
    → still_open g top ≡ incoming_at g edge ∷ map (incoming_at g) (drop (top.next + 1) top.parents)
still_open-next g top edge next =
    rw add-one (ap (map (incoming_at g)) (drop-cons top.parents top.next edge next.within
    ∙ ap (λ e. e ∷ drop (suc top.next) top.parents) (sym next.is)))

-- what holds for all items holds for the last
last_of : {T : Type 0} (P : T → Type 0) (xs : List T) (x : T) → All P (xs ++ x ∷ []) → P x
last_of P xs x all = (All-pop P (xs ++ x ∷ []) xs (Some x) refl all).1

before_of : {T : Type 0} (P : T → Type 0) (xs : List T) (x : T) → All P (xs ++ x ∷ []) → All P xs
before_of P xs x all = (All-pop P (xs ++ x ∷ []) xs (Some x) refl all).0

-- the node that the next parent's edge names is one of the graph
next_inside : (g : Graph) (numbers : List ℕ) (nodes : List Open) (top : Open) (edge : InEdge)
    → AreOpen g numbers (nodes ++ top ∷ []) → IsNext top edge → IsInside g edge
next_inside g numbers nodes top edge are next =
    subst (IsInside g) (sym next.is) (All-get_or (IsInside g) top.parents top.next edge next.within
    (last_of (λ node. All (IsInside g) node.parents) nodes top are.parents))

-- the last open node is replaced by another with the same parents
replaced : (g : Graph) (numbers : List ℕ) (nodes : List Open) (top after : Open) → after.parents ≡ top.parents
    → AreOpen g numbers (nodes ++ top ∷ []) → AreOpen g numbers (nodes ++ after ∷ [])
replaced g numbers nodes top after same are = record {
  ascend = are.ascend;
  inside = are.inside;
  parents = All-push (λ node. All (IsInside g) node.parents) nodes after
      (before_of (λ node. All (IsInside g) node.parents) nodes top are.parents)
      (subst (All (IsInside g)) (sym same) (last_of (λ node. All (IsInside g) node.parents) nodes top are.parents));
  short = All-push (λ node. length node.parents < 2 ^ 64) nodes after
      (before_of (λ node. length node.parents < 2 ^ 64) nodes top are.short)
      (subst (λ (edges : List InEdge). length edges < 2 ^ 64) (sym same)
      (last_of (λ node. length node.parents < 2 ^ 64) nodes top are.short));
  low = let a = length-push nodes top in
      let b = length-push nodes after in
      omega (arith, a, b, are.low);
}

work-push : (g : Graph) (numbers : List ℕ) (nodes : List Open) (top : Open)
    → work g numbers (nodes ++ top ∷ []) ≡ work g numbers nodes + left_of top
unfolding work
work-push g numbers nodes top =
    let sums = sum_by_push left_of nodes top in
    omega (arith, sums)

-- meeting a node takes more work away than all its parents add
work-more : (g : Graph) (numbers more : List ℕ) (nodes : List Open) → length more ≡ length numbers + 1
    → length more ≤ length (nodes_of g) → work g numbers nodes ≡ work g more nodes + 2 ^ 65
unfolding work
work-more g numbers more nodes long few = omega (arith, long, few)

nothing_left : (g : Graph) (top : Open) → length top.parents ≤ top.next → still_open g top ≡ []
nothing_left g top done = ap (map (incoming_at g)) (drop_all top.next top.parents done)

shorter : (g : Graph) (numbers : List ℕ) (nodes : List Open) (top : Open) → AreOpen g numbers (nodes ++ top ∷ [])
    → AreOpen g numbers nodes
shorter g numbers nodes top are = record {
  ascend = are.ascend;
  inside = are.inside;
  parents = before_of (λ node. All (IsInside g) node.parents) nodes top are.parents;
  short = before_of (λ node. length node.parents < 2 ^ 64) nodes top are.short;
  low = let long = length-push nodes top in omega (arith, long, are.low);
}

-- the next parent was met before
pub advance-repeat : (g : Graph) (most : Option ℕ) (numbers : List ℕ) (nodes : List Open) (top after : Open)
    (edge : InEdge)
    → AreOpen g numbers (nodes ++ top ∷ []) → IsNext top edge
    → list_any (is_at (nat_cmp edge.node.0)) numbers ≡ true
    → after.inner ≡ top.inner → after.parents ≡ top.parents → after.next ≡ top.next + 1
    → after.grown ≡ top.grown ++ node_with (inner_of g (incoming_at g edge)) true [] ∷ []
    → Advances g most numbers (nodes ++ top ∷ []) numbers (nodes ++ after ∷ [])
advance-repeat g most numbers nodes top after edge are first met shown same next more = record {
  open_nodes = replaced g numbers nodes top after same are;
  some = let long = length-push nodes after in omega (arith, long);
  goes_on = λ whole grow. record {
    met = grow.met;
    are_met = grow.are_met;
    grown = sym (grown_from-same g most 0 (length nodes) nodes (top ∷ []) (after ∷ []) grow.met grow.met (omega arith)
        (step-repeat g most (length nodes) grow.met top after (incoming_at g edge) left
        (grow.are_met.same edge.node.0 (next_inside g numbers nodes top edge are first) ∙ met) shown more))
        ∙ grow.grown;
  };
  less = let a = work-push g numbers nodes top in
      let b = work-push g numbers nodes after in
      let fewer : left_of after < left_of top = rw (same, next) (omega (arith, first.within)) in
      omega (arith, a, b, fewer);
}
  where
    left : still_open g top ≡ incoming_at g edge ∷ still_open g after
    left = still_open-next g top edge first ∙ ap (λ is. incoming_at g edge ∷ is)
        (rw (same, next) refl)

-- the numbers of met nodes, ascending, once another number is inserted
pub record HasMore (numbers more : List ℕ) (e : ℕ) : Type 0 where
  pub new : list_any (is_at (nat_cmp e)) numbers ≡ false
  pub updates : (q : ℕ) → list_any (is_at (nat_cmp q)) more
      ≡ cond (is_at (nat_cmp e) q) true (list_any (is_at (nat_cmp q)) numbers)
  pub are : more ≡ insert_key nat_cmp numbers e
  pub long : length more ≡ length numbers + 1
  pub ascend : IsStrictlySortedBy nat_cmp more

-- the next parent is new, and is opened
pub advance-open : (g : Graph) (most : Option ℕ) (numbers more : List ℕ) (nodes : List Open) (top after above : Open)
    (edge : InEdge) → AllPairs (λ a b. a ≢ b) (nodes_of g) → AreOpen g numbers (nodes ++ top ∷ [])
    → IsNext top edge → HasMore numbers more edge.node.0
    → after.inner ≡ top.inner → after.parents ≡ top.parents → after.next ≡ top.next + 1 → after.grown ≡ top.grown
    → IsOpened g most (length nodes + 1) edge above
    → Advances g most numbers (nodes ++ top ∷ []) more ((nodes ++ after ∷ []) ++ above ∷ [])
advance-open g most numbers more nodes top after above edge own are first has shown same next grown opened = record {
  open_nodes = record {
    ascend = has.ascend;
    inside = subst (All (λ n. n < length (nodes_of g))) (sym has.are)
        (All-insert_key nat_cmp edge.node.0 (λ n. n < length (nodes_of g)) numbers are.inside inside);
    parents = All-push (λ node. All (IsInside g) node.parents) (nodes ++ after ∷ []) above put.parents opened.inside;
    short = All-push (λ node. length node.parents < 2 ^ 64) (nodes ++ after ∷ []) above put.short opened.short;
    low = let a = length-push (nodes ++ after ∷ []) above in
        let b = put.low in
        omega (arith, a, b, has.long);
  };
  some = let long = length-push (nodes ++ after ∷ []) above in omega (arith, long);
  goes_on = λ whole grow. record {
    met = node_at g edge.node.0 ∷ grow.met;
    are_met = met_more g numbers more grow.met edge.node.0 own inside grow.are_met has.updates;
    grown = ap (λ ns. grown_from g most 0 ns (node_at g edge.node.0 ∷ grow.met)) (append_assoc nodes (after ∷ [])
        (above ∷ []))
        ∙ (sym (grown_from-same g most 0 (length nodes) nodes (top ∷ []) (after ∷ above ∷ []) grow.met
        (node_at g edge.node.0 ∷ grow.met) (omega arith)
        (step-open g most (length nodes) grow.met top after above (incoming_at g edge) left
        (grow.are_met.same edge.node.0 inside ∙ has.new) shown grown opened.inner opened.grown still levels))
        ∙ grow.grown);
  };
  less = let a = work-push g numbers nodes top in
      let b = work-push g more nodes after in
      let c = work-push g more (nodes ++ after ∷ []) above in
      let d = work-more g numbers more nodes has.long few in
      let one : left_of after + 1 ≡ left_of top = rw (same, next) (omega (arith, first.within)) in
      let two : left_of above ≤ 2 ^ 64 = omega (arith, opened.short) in
      omega (arith, a, b, c, d, one, two);
}
  where
    inside : IsInside g edge
    inside = next_inside g numbers nodes top edge are first

    put : AreOpen g numbers (nodes ++ after ∷ [])
    put = replaced g numbers nodes top after same are

    left : still_open g top ≡ incoming_at g edge ∷ still_open g after
    left = still_open-next g top edge first ∙ ap (λ is. incoming_at g edge ∷ is)
        (rw (same, next) refl)

    still : still_open g above ≡ parents_in g most (suc (length nodes)) (node_at g edge.node.0)
    still = rw opened.next (rw add-one at opened.parents)

    few : length more ≤ length (nodes_of g)
    few = length-le_from_below (length (nodes_of g)) more has.ascend
        (subst (All (λ n. n < length (nodes_of g))) (sym has.are)
        (All-insert_key nat_cmp edge.node.0 (λ n. n < length (nodes_of g)) numbers are.inside inside))

    levels : suc (length nodes) < all_levels g
    levels = let a = length-push nodes top in omega (arith, a, are.low, few, has.long)

-- the last node is closed: its tree is one of those of the node before it
pub advance-close : (g : Graph) (most : Option ℕ) (numbers : List ℕ) (nodes : List Open) (below top after : Open)
    → AreOpen g numbers ((nodes ++ below ∷ []) ++ top ∷ []) → length top.parents ≤ top.next
    → after.inner ≡ below.inner → after.parents ≡ below.parents → after.next ≡ below.next
    → after.grown ≡ below.grown ++ node_with top.inner false top.grown ∷ []
    → Advances g most numbers ((nodes ++ below ∷ []) ++ top ∷ []) numbers (nodes ++ after ∷ [])
advance-close g most numbers nodes below top after are done shown same next grown = record {
  open_nodes = replaced g numbers nodes below after same (shorter g numbers (nodes ++ below ∷ []) top are);
  some = let long = length-push nodes after in omega (arith, long);
  goes_on = λ whole grow. record {
    met = grow.met;
    are_met = grow.are_met;
    grown = sym (ap (λ ns. grown_from g most 0 ns grow.met) (append_assoc nodes (below ∷ []) (top ∷ []))
        ∙ grown_from-same g most 0 (length nodes) nodes (below ∷ top ∷ []) (after ∷ []) grow.met grow.met (omega arith)
        (step-close g most (length nodes) grow.met below top after (nothing_left g top done) (rw
        (same, next) refl) shown
        grown)) ∙ grow.grown;
  };
  less = let a = work-push g numbers (nodes ++ below ∷ []) top in
      let b = work-push g numbers nodes below in
      let c = work-push g numbers nodes after in
      let as_before : left_of after ≡ left_of below = rw (same, next) refl in
      omega (arith, a, b, c, as_before);
}

-- the root is closed: its tree is the whole one
pub ends : (g : Graph) (most : Option ℕ) (numbers : List ℕ) (top : Open) → length top.parents ≤ top.next
    → GrowToTree g most numbers (top ∷ []) (node_with top.inner false top.grown)
ends g most numbers top done whole grow =
    ap (λ grown. grown.trees) (sym grow.grown) ∙ step-end g most 0 grow.met top (nothing_left g top done)

grow_at-root : (g : Graph) (most : Option ℕ) (met : List Node) (node : Node)
    → grow_at g most 0 met node ≡ grow g most (all_levels g) 0 met node
unfolding grow_at
grow_at-root g most met node =
    let whole : all_levels g - 0 ≡ all_levels g = omega arith in
    ap (λ levels. grow g most levels 0 met node) whole

-- the tree that the root alone grows to
root_grows : (g : Graph) (most : Option ℕ) (node : Node) (opened : Open) → opened.inner ≡ inner_of g (start node)
    → still_open g opened ≡ parents_in g most 0 node → opened.grown ≡ []
    → (grown_from g most 0 (opened ∷ []) (node ∷ [])).trees ≡ tree_of g most node ∷ []
unfolding grown_from tree_of
root_grows g most node opened shown parents none =
    let met = node ∷ [] in
    ap (λ is. node_with opened.inner false ((opened.grown ++ []) ++ (grow_each g (grow_at g most 1) met is).trees) ∷ [])
    parents
    ∙ (ap (λ rest. node_with opened.inner false ((opened.grown ++ []) ++ rest.trees) ∷ [])
    (sym (grow_at-next g most 0 met node (omega arith)) ∙ grow_at-root g most met node)
    ∙ (ap (λ inner. node_with inner false ((opened.grown ++ []) ++ (grow g most (all_levels g) 0 met node).trees)
    ∷ []) shown
    ∙ ap (λ (trees : List GraphNode). node_with (inner_of g (start node)) false ((trees ++ [])
    ++ (grow g most (all_levels g) 0 met node).trees) ∷ []) none))

none_met : (g : Graph) → AreMet g [] []
unfolding is_met
none_met g = record { same = λ n inside. refl }

-- the tree that grows from the root is the tree of its node
pub begins : (g : Graph) (most : Option ℕ) (edge : InEdge) (numbers : List ℕ) (nodes : List Open) (opened : Open)
    (tree : GraphNode) → AllPairs (λ a b. a ≢ b) (nodes_of g) → IsInside g edge
    → incoming_at g edge ≡ start (node_at g edge.node.0) → HasMore [] numbers edge.node.0 → nodes ≡ opened ∷ []
    → IsOpened g most 0 edge opened → GrowToTree g most numbers nodes tree
    → tree ≡ tree_of g most (node_at g edge.node.0)
begins g most edge numbers nodes opened tree own inside root has one are grows =
    let node = node_at g edge.node.0 in
    let whole = grown_from g most 0 nodes (node ∷ []) in
    let is : whole.trees ≡ tree_of g most node ∷ [] =
    ap (λ ns. (grown_from g most 0 ns (node ∷ [])).trees) one
    ∙ root_grows g most node opened (are.inner ∙ ap (inner_of g) root) (rw are.next are.parents) are.grown in
    let known = grows whole (record {
      met = node ∷ [];
      are_met = met_more g [] numbers [] edge.node.0 own inside (none_met g) has.updates;
      grown = refl;
    }) in
    ap (λ trees. get_or trees 0 tree) (sym known ∙ is)
