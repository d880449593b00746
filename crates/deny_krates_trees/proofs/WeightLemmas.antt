-- The number of nodes of trees, by their parts.
use Rattle.std.proofs.Common.{◌≡◌, ◌∙◌, ◌+◌, ◌<◌, ◌≤◌, ℕ, suc, List, [], ◌∷◌, ◌++◌, Option, None, Some, ap, sym, subst}
use Rattle.std.proofs.Common.{arith}
use Rattle.std.specs.Option.{option_to_list}
use Rattle.std.proofs.lemmas.List.Sums.{sum-map, sum_by-cons, sum_by_push}
use Rattle.deny_krates_trees.specs.declared.node.GraphNode.{GraphNode, fold_out-GraphNode, out-GraphNode}
use Rattle.deny_krates_trees.specs.Tree.{node_with}
use Rattle.deny_krates_trees.specs.declared.node.GraphNode.{out-roll-GraphNode}
use Rattle.deny_krates_trees.specs.declared.node.NodeInner.{NodeInner}
use Rattle.deny_krates_trees.specs.private.Weights.{turns, turns_left, weight, weight_step, weights}

-- a node, and all those above it
pub weight-out : (tree : GraphNode) → weight tree ≡ suc (weights (out-GraphNode tree).parents)
weight-out tree =
    fold_out-GraphNode ℕ weight_step tree ∙ ap suc (sum-map weight (out-GraphNode tree).parents)

pub weight-node : (inner : NodeInner) (repeat : _) (parents : List GraphNode)
    → weight (node_with inner repeat parents) ≡ suc (weights parents)
weight-node inner repeat parents =
    weight-out (node_with inner repeat parents)
    ∙ ap (λ n. suc (weights n.parents)) (out-roll-GraphNode (record {
      inner = inner;
      repeat = repeat;
      parents = parents;
    }))

-- less is left where a node is dropped
fewer_turns : (all own all' own' : ℕ) → own' ≤ all' → all' < all → turns all' own' < turns all own
unfolding turns
fewer_turns all own all' own' within less = grind arith

-- less is left where the next tree is a smaller one
smaller_turns : (all own own' : ℕ) → own' < own → turns all own' < turns all own
unfolding turns
smaller_turns all own own' less = omega arith

weights-popped : (trees rest : List GraphNode) (tree : GraphNode) → trees ≡ rest ++ tree ∷ []
    → weights trees ≡ weights rest + weight tree
weights-popped trees rest tree e = ap weights e ∙ sum_by_push weight rest tree

-- a root without parents is dropped, and the next tree is taken from those that are left
pub turns_taken : (left rest : List GraphNode) (tree : GraphNode) (next : Option GraphNode)
    → left ≡ rest ++ option_to_list next → turns_left rest next < turns_left left (Some tree)
unfolding turns
turns_taken left rest tree None e = omega arith
turns_taken left rest tree (Some next) e =
    let some = weights-popped left rest next e in
    let more = weight-out tree in
    fewer_turns (weights left + weight tree) (weight tree) (weights rest + weight next) (weight next) (omega arith)
    (omega (arith, some, more))

-- a root is dropped, and one of its parents is the next tree
pub turns_led : (left rest parents : List GraphNode) (tree next : GraphNode) → parents ≡ (out-GraphNode tree).parents
    → parents ≡ rest ++ next ∷ [] → turns_left rest (Some next) < turns_left left (Some tree)
turns_led left rest parents tree next own e =
    let some = weights-popped parents rest next e in
    let more = weight-out tree ∙ ap (λ trees. suc (weights trees)) (sym own) in
    fewer_turns (weights left + weight tree) (weight tree) (weights rest + weight next) (weight next) (omega arith)
    (omega (arith, some, more))

-- a root stays, with the trees that were left as its parents, and one of its own parents is the next tree
pub turns_behind : (left rest after parents : List GraphNode) (tree next back : GraphNode)
    → parents ≡ (out-GraphNode tree).parents → parents ≡ rest ++ next ∷ [] → weight back ≡ suc (weights left)
    → weights after ≡ weights (back ∷ rest) → turns_left after (Some next) < turns_left left (Some tree)
turns_behind left rest after parents tree next back own e behind are =
    let some = weights-popped parents rest next e in
    let more = weight-out tree ∙ ap (λ trees. suc (weights trees)) (sym own) in
    let first = sum_by-cons weight back rest in
    let same : weights after + weight next ≡ weights left + weight tree = omega
    (arith, some, more, first, behind, are) in
    subst (λ all. turns all (weight next) < turns (weights left + weight tree) (weight tree)) (sym same)
    (smaller_turns (weights left + weight tree) (weight tree) (weight next) (omega (arith, some, more)))
