-- The value and the weight of a tree, by those of its parents.
use Rattle.std.proofs.Common.{◌≡◌, ℕ, Bool, ◌+◌, ◌<◌, List, [], ◌∷◌, ◌++◌, ap, refl, ◌∙◌, sym, arith, append_assoc}
use Rattle.std.specs.Prelude.{map, sum_by}
use Rattle.std.proofs.lemmas.List.{map-append}
use Rattle.std.proofs.lemmas.List.Sums.{sum-map, sum_by-cons, sum_by_push}
use Rattle.serde_json.specs.Data.{Data}
use Rattle.serde_json.specs.View.{view}
use Rattle.serde_json.specs.declared.value.Value.{Value}
use Rattle.deny_krates_trees.specs.Tree.{node_with}
use Rattle.deny_krates_trees.specs.declared.node.GraphNode.{GraphNode, out-GraphNode, fold_out-GraphNode}
use Rattle.deny_krates_trees.specs.declared.node.GraphNode.{fold-roll-GraphNode}
use Rattle.deny_krates_trees.specs.declared.node.NodeInner.{NodeInner}
use Rattle.deny_gate_json.specs.Graphs.{graph_step, graph_value, node_value}
use Rattle.deny_gate_json.specs.declared.graphs.Making.{Making}
use Rattle.deny_gate_json.specs.private.Making.{filled, making_value, making_weight, value_with, whole_value}
use Rattle.deny_gate_json.specs.private.Weight.{weight, weight_step}

pub value_of_parents : (graph : GraphNode)
    → graph_value graph ≡ value_with graph (map graph_value (out-GraphNode graph).parents)
value_of_parents graph = fold_out-GraphNode Data graph_step graph

pub value_of_node : (inner : NodeInner) (repeat : Bool) (parents : List GraphNode)
    → graph_value (node_with inner repeat parents) ≡ node_value inner (map graph_value parents) repeat
value_of_node inner repeat parents =
    fold-roll-GraphNode Data graph_step (record { inner = inner; repeat = repeat; parents = parents })

pub weight_of_parents : (graph : GraphNode) → weight graph ≡ 2 + sum_by weight (out-GraphNode graph).parents
unfolding weight
weight_of_parents graph = fold_out-GraphNode ℕ weight_step graph
    ∙ ap (λ (n : ℕ). 2 + n) (sum-map weight (out-GraphNode graph).parents)

-- the node that waits last is filled first
whole_push : (below : List Making) (waiting : Making) (value : Data)
    → whole_value (below ++ waiting ∷ []) value ≡ whole_value below (filled waiting value)
whole_push [] waiting value = refl
whole_push (first ∷ below) waiting value = ap (filled first) (whole_push below waiting value)

-- a node begins to wait for its next parent
pub whole_begun : (below new : List Making) (top waiting next : Making) (parent : GraphNode)
    → new ≡ below ++ waiting ∷ [] → making_value next ≡ graph_value parent
    → filled waiting (graph_value parent) ≡ making_value top
    → whole_value new (making_value next) ≡ whole_value below (making_value top)
whole_begun below new top waiting next parent pushed begun same =
    ap (λ (ms : List Making). whole_value ms (making_value next)) pushed
    ∙ (whole_push below waiting (making_value next)
    ∙ ap (whole_value below) (ap (filled waiting) begun ∙ same))

-- a node gains the value that it waits for
pub whole_filled : (below new : List Making) (waiting : Making) (next : Data) (value : Data)
    → below ≡ new ++ waiting ∷ [] → next ≡ filled waiting value
    → whole_value new next ≡ whole_value below value
whole_filled below new waiting next value popped same =
    ap (whole_value new) same ∙ (sym (whole_push new waiting value)
    ∙ ap (λ (ms : List Making). whole_value ms value) (sym popped))

pub one_more : (done : List Value) (value : Value) (rest : List Data)
    → map view (done ++ value ∷ []) ++ rest ≡ map view done ++ view value ∷ rest
one_more done value rest = ap (λ (ds : List Data). ds ++ rest) (map-append view done (value ∷ []))
    ∙ append_assoc (map view done) (view value ∷ []) rest

-- a node that waits and its next parent weigh less than the node did
pub less_begun : (below new : List Making) (top waiting next : Making) (parent : GraphNode)
    → new ≡ below ++ waiting ∷ [] → making_weight next + 1 ≡ weight parent
    → top.rest.now ≡ parent ∷ waiting.rest.now
    → sum_by making_weight new + making_weight next < sum_by making_weight below + making_weight top
less_begun below new top waiting next parent pushed begun split =
    omega (
      arith,
      ap (sum_by making_weight) pushed,
      sum_by_push making_weight below waiting,
      ap (sum_by weight) split,
      sum_by-cons weight parent waiting.rest.now,
      begun,
    )
