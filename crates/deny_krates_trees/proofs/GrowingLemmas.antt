-- The trees that open nodes grow to stay the same while nodes are met, opened and closed.
use Rattle.std.proofs.Common.{◌≡◌, ◌∙◌, ◌+◌, ◌-◌, ◌<◌, ℕ, suc, true, false, List, [], ◌∷◌, ◌++◌, Option, ap, sym, subst}
use Rattle.std.proofs.Common.{arith, length, append_assoc, append-nil, add-zero}
use Rattle.deny_krates.specs.Nodes.{Incoming, Node}
use Rattle.deny_spec.specs.Graph.{Graph}
use Rattle.deny_krates_trees.specs.declared.build.Open.{Open}
use Rattle.deny_krates_trees.specs.declared.node.GraphNode.{GraphNode}
use Rattle.deny_krates_trees.specs.declared.node.NodeInner.{NodeInner}
use Rattle.deny_krates_trees.specs.Parents.{parents_in}
use Rattle.deny_krates_trees.specs.Tree.{GrownTrees, all_levels, grow, grow_each, grow_one, inner_of, is_met, node_with}
use Rattle.deny_krates_trees.specs.Tree.{followed_by}
use Rattle.deny_krates_trees.specs.private.Growing.{close, grow_at, grown_from, still_open}

-- the trees above a node are those with one level less above each parent
pub grow_at-next : (g : Graph) (most : Option ℕ) (depth : ℕ) (met : List Node) (node : Node) → depth < all_levels g
    → grow_at g most depth met node ≡ grow_each g (grow_at g most (suc depth)) met (parents_in g most depth node)
unfolding grow_at grow
grow_at-next g most depth met node below =
    let next : all_levels g - depth ≡ suc (all_levels g - suc depth) = omega arith in
    ap (λ levels. grow g most levels depth met node) next

module _ (g : Graph) (above : List Node → Node → GrownTrees) where
  -- growing a node that was met before
  pub grow_each-repeat : (met : List Node) (i : Incoming) (is : List Incoming) → is_met met i.node ≡ true
      → grow_each g above met (i ∷ is)
      ≡ record {
        trees = node_with (inner_of g i) true [] ∷ (grow_each g above met is).trees;
        met = (grow_each g above met is).met;
      }
  unfolding grow_each
  grow_each-repeat met i is e =
      ap (λ b. followed_by (grow_one g above b met i) (λ more. grow_each g above more is)) e

  -- growing a node that was not met before
  pub grow_each-new : (met : List Node) (i : Incoming) (is : List Incoming) → is_met met i.node ≡ false
      → grow_each g above met (i ∷ is)
      ≡ record {
        trees = node_with (inner_of g i) false (above (i.node ∷ met) i.node).trees ∷ (grow_each g above
            (above (i.node ∷ met) i.node).met is).trees;
        met = (grow_each g above (above (i.node ∷ met) i.node).met is).met;
      }
  unfolding grow_each
  grow_each-new met i is e =
      ap (λ b. followed_by (grow_one g above b met i) (λ more. grow_each g above more is)) e

-- where the last of open nodes grow to the same trees, all of them do
pub grown_from-same : (g : Graph) (most : Option ℕ) (depth end : ℕ) (nodes before after : List Open)
    (met met' : List Node) → end ≡ depth + length nodes
    → grown_from g most end before met ≡ grown_from g most end after met'
    → grown_from g most depth (nodes ++ before) met ≡ grown_from g most depth (nodes ++ after) met'
unfolding grown_from
grown_from-same g most depth end [] before after met met' at same =
    subst (λ n. grown_from g most n before met ≡ grown_from g most n after met') (at ∙ add-zero depth) same
grown_from-same g most depth end (node ∷ nodes) before after met met' at same =
    ap (close g most (suc depth) node)
    (grown_from-same g most (suc depth) end nodes before after met met' (omega arith) same)

-- the tree of a node over its grown trees and others
abbrev closed_with : NodeInner → List GraphNode → GrownTrees → GrownTrees
closed_with inner before rest = record { trees = node_with inner false (before ++ rest.trees) ∷ []; met = rest.met }

abbrev closed_over : NodeInner → List GraphNode → List Node → GrownTrees
closed_over inner trees met = record { trees = node_with inner false trees ∷ []; met = met }

same_closed : (inner inner' : NodeInner) (before before' : List GraphNode) (rest : GrownTrees) → inner' ≡ inner
    → before' ≡ before → closed_with inner before rest ≡ closed_with inner' before' rest
same_closed inner inner' before before' rest a b =
    ap (λ i. closed_with i before rest) (sym a) ∙ ap (λ ts. closed_with inner' ts rest) (sym b)

one_more : (trees : List GraphNode) (tree : GraphNode) (rest : List GraphNode)
    → (trees ++ []) ++ (tree ∷ rest) ≡ ((trees ++ tree ∷ []) ++ []) ++ rest
one_more trees tree rest = simp (append-nil, append_assoc)

one_above : (trees : List GraphNode) (tree : GraphNode) (rest : List GraphNode)
    → (trees ++ []) ++ (tree ∷ rest) ≡ (trees ++ tree ∷ []) ++ rest
one_above trees tree rest = simp (append-nil, append_assoc)

module _ (g : Graph) (most : Option ℕ) (depth : ℕ) (met : List Node) where
  -- the next parent was met before: a repeat of it is one more tree
  pub step-repeat : (top after : Open) (i : Incoming) → still_open g top ≡ i ∷ still_open g after
      → is_met met i.node ≡ true → after.inner ≡ top.inner
      → after.grown ≡ top.grown ++ node_with (inner_of g i) true [] ∷ []
      → grown_from g most depth (top ∷ []) met ≡ grown_from g most depth (after ∷ []) met
  unfolding grown_from
  step-repeat top after i left was same more =
      let above = grow_at g most (suc depth) in
      let rest = grow_each g above met (still_open g after) in
      let tree = node_with (inner_of g i) true [] in
      ap (λ is. closed_with top.inner (top.grown ++ []) (grow_each g above met is)) left
      ∙ (ap (closed_with top.inner (top.grown ++ [])) (grow_each-repeat g above met i (still_open g after) was)
      ∙ (ap (λ trees. closed_over top.inner trees rest.met) (one_more top.grown tree rest.trees)
      ∙ same_closed top.inner after.inner ((top.grown ++ tree ∷ []) ++ []) (after.grown ++ []) rest same
      (ap (λ trees. trees ++ []) more)))

  -- the next parent is new: it is opened
  pub step-open : (top after above : Open) (i : Incoming) → still_open g top ≡ i ∷ still_open g after
      → is_met met i.node ≡ false → after.inner ≡ top.inner → after.grown ≡ top.grown
      → above.inner ≡ inner_of g i → above.grown ≡ [] → still_open g above ≡ parents_in g most (suc depth) i.node
      → suc depth < all_levels g
      → grown_from g most depth (top ∷ []) met ≡ grown_from g most depth (after ∷ above ∷ []) (i.node ∷ met)
  unfolding grown_from
  step-open top after above i left was same more shown none parents below =
      let at = grow_at g most (suc depth) in
      let grown = at (i.node ∷ met) i.node in
      let rest = grow_each g at grown.met (still_open g after) in
      let tree = node_with (inner_of g i) false grown.trees in
      let opened : grown_from g most (suc depth) (above ∷ []) (i.node ∷ met)
      ≡ closed_over (inner_of g i) grown.trees grown.met =
      ap (λ is. closed_with above.inner (above.grown ++ []) (grow_each g (grow_at g most (suc (suc depth))) (i.node
      ∷ met) is))
      parents
      ∙ (ap (closed_with above.inner (above.grown ++ []))
      (sym (grow_at-next g most (suc depth) (i.node ∷ met) i.node below))
      ∙ sym (same_closed (inner_of g i) above.inner [] (above.grown ++ []) grown shown
      (ap (λ trees. trees ++ []) none))) in
      ap (λ is. closed_with top.inner (top.grown ++ []) (grow_each g at met is)) left
      ∙ (ap (closed_with top.inner (top.grown ++ [])) (grow_each-new g at met i (still_open g after) was)
      ∙ (ap (λ trees. closed_over top.inner trees rest.met) (one_above top.grown tree rest.trees)
      ∙ (same_closed top.inner after.inner (top.grown ++ tree ∷ []) (after.grown ++ tree ∷ []) rest same
      (ap (λ trees. trees ++ tree ∷ []) more)
      ∙ ap (close g most (suc depth) after) (sym opened))))

  grown_from-done : (top : Open) → still_open g top ≡ []
      → grown_from g most depth (top ∷ []) met ≡ closed_over top.inner top.grown met
  unfolding grown_from grow_each
  grown_from-done top left =
      ap (λ is. closed_with top.inner (top.grown ++ []) (grow_each g (grow_at g most (suc depth)) met is)) left
      ∙ ap (λ trees. closed_over top.inner trees met) (simp append-nil)

-- all parents of the last node are grown: its tree is one of those of the node before it
pub step-close : (g : Graph) (most : Option ℕ) (depth : ℕ) (met : List Node) (below top after : Open)
    → still_open g top ≡ [] → still_open g after ≡ still_open g below → after.inner ≡ below.inner
    → after.grown ≡ below.grown ++ node_with top.inner false top.grown ∷ []
    → grown_from g most depth (below ∷ top ∷ []) met ≡ grown_from g most depth (after ∷ []) met
unfolding grown_from
step-close g most depth met below top after left same shown more =
    let tree = node_with top.inner false top.grown in
    let rest = grow_each g (grow_at g most (suc depth)) met (still_open g below) in
    ap (close g most (suc depth) below) (grown_from-done g most (suc depth) met top left)
    ∙ (same_closed below.inner after.inner (below.grown ++ tree ∷ []) (after.grown ++ []) rest shown
    (append-nil after.grown ∙ more)
    ∙ ap (λ is. closed_with after.inner (after.grown ++ []) (grow_each g (grow_at g most (suc depth)) met is))
    (sym same))

-- all parents of the root are grown: its tree is the whole one
pub step-end : (g : Graph) (most : Option ℕ) (depth : ℕ) (met : List Node) (top : Open) → still_open g top ≡ []
    → (grown_from g most depth (top ∷ []) met).trees ≡ node_with top.inner false top.grown ∷ []
step-end g most depth met top left = ap (λ grown. grown.trees) (grown_from-done g most depth met top left)
