-- The text of trees, node by node.
use Rattle.std.proofs.Common.{◌≡◌, ℕ, ◌+◌, ◌<◌, Bool, true, false, List, [], ◌∷◌, ◌++◌, ◌≢◌, codes, length, ap, refl}
use Rattle.std.proofs.Common.{◌∙◌, sym, arith, append_assoc, append-nil}
use Rattle.std.specs.Prelude.{map, sum_by}
use Rattle.std.proofs.lemmas.List.Sums.{sum_by_push}
use Rattle.serde_json.proofs.OnLiterals.{serde_json_on_literals}
use Rattle.serde_json.specs.Data.{Data}
use Rattle.serde_json.specs.View.{items_of}
use Rattle.serde_json.specs.Written.{comma_if, compact_text, items_text}
use Rattle.deny_krates_trees.specs.declared.node.GraphNode.{GraphNode, out-GraphNode}
use Rattle.deny_krates_trees.specs.declared.node.NodeInner.{NodeInner}
use Rattle.deny_krates_trees.specs.declared.node.NodeInner.TheVariants.{Krate, Feature}
use Rattle.deny_gate_json.specs.Graphs.{feature_value, graph_value, node_value}
use Rattle.deny_gate_json.specs.declared.graph_text.Waiting.{Waiting}
use Rattle.deny_gate_json.specs.private.Weight.{weight}
use Rattle.deny_gate_json.specs.private.Making.{value_with}
use Rattle.deny_gate_json.specs.private.Writing.{all_text, end_text, head_text, waiting_text, waiting_weight}
use Rattle.deny_gate_json.proofs.GraphLemmas.{value_of_parents, weight_of_parents}

-- the trees on top of the stack are written first
all_text_push : (ws : List Waiting) (w : Waiting) → all_text (ws ++ w ∷ []) ≡ waiting_text w ++ all_text ws
all_text_push [] w = sym (append-nil (waiting_text w))
all_text_push (first ∷ ws) w = ap (λ (text : List ℕ). text ++ waiting_text first) (all_text_push ws w)
    ∙ append_assoc (waiting_text w) (all_text ws) (waiting_text first)

leaf_node : (inner : NodeInner) (repeat : Bool)
    → compact_text (node_value inner [] repeat) ≡ head_text inner ++ end_text repeat
unfolding serde_json_on_literals
leaf_node (Krate name version kind) true = refl
leaf_node (Krate name version kind) false = refl
leaf_node (Feature crate_name name) true = refl
leaf_node (Feature crate_name name) false = refl

held_node : (inner : NodeInner) (parent : Data) (parents : List Data) (repeat : Bool)
    → compact_text (node_value inner (parent ∷ parents) repeat)
    ≡ head_text inner ++ (codes ",\"parents\":[" ++ (items_text false (items_of (parent ∷ parents)) ++ end_text repeat))
unfolding serde_json_on_literals
held_node (Krate name version kind) parent parents true = refl
held_node (Krate name version kind) parent parents false = refl
held_node (Feature crate_name name) parent parents true = refl
held_node (Feature crate_name name) parent parents false = refl

-- ---- a node

leaf_text : (graph : GraphNode) → (out-GraphNode graph).parents ≡ []
    → compact_text (graph_value graph) ≡ head_text (out-GraphNode graph).inner ++ end_text (out-GraphNode graph).repeat
leaf_text graph none =
    ap compact_text (value_of_parents graph
    ∙ ap (λ (parents : List GraphNode). value_with graph (map graph_value parents)) none)
    ∙ leaf_node (out-GraphNode graph).inner (out-GraphNode graph).repeat

held_text : (graph : GraphNode) (parents : List GraphNode) → (out-GraphNode graph).parents ≡ parents
    → length parents ≢ 0
    → compact_text (graph_value graph) ≡ head_text (out-GraphNode graph).inner ++ (codes ",\"parents\":["
    ++ (items_text false (items_of (map graph_value parents)) ++ end_text (out-GraphNode graph).repeat))
held_text graph [] is some = absurd (some refl)
held_text graph (parent ∷ parents) is some =
    ap compact_text (value_of_parents graph
    ∙ ap (λ (parents : List GraphNode). value_with graph (map graph_value parents)) is)
    ∙ held_node (out-GraphNode graph).inner (graph_value parent) (map graph_value parents) (out-GraphNode graph).repeat

-- the text of a node that is a feature, up to the feature
pub feature_written : (old mid new crate_name name : List ℕ) (inner : NodeInner) (value : Data)
    → inner ≡ Feature crate_name name → mid ≡ old ++ codes "{\"Feature\":" → value ≡ feature_value crate_name name
    → new ≡ mid ++ compact_text value → new ≡ old ++ head_text inner
feature_written old mid new crate_name name inner value is first value_is second =
    second ∙ (ap (λ (text : List ℕ). text ++ compact_text value) first
    ∙ (append_assoc old (codes "{\"Feature\":") (compact_text value)
    ∙ ap (λ (text : List ℕ). old ++ text)
    (ap (λ (d : Data). codes "{\"Feature\":" ++ compact_text d) value_is ∙ sym (ap head_text is))))

pub leaf_written : (graph : GraphNode) (old head new below : List ℕ) → (out-GraphNode graph).parents ≡ []
    → head ≡ old ++ head_text (out-GraphNode graph).inner → new ≡ head ++ end_text (out-GraphNode graph).repeat
    → new ++ below ≡ old ++ (compact_text (graph_value graph) ++ below)
leaf_written graph old head new below none first second =
    let start = head_text (out-GraphNode graph).inner in
    let end = end_text (out-GraphNode graph).repeat in
    ap (λ (text : List ℕ). text ++ below)
    (second ∙ (ap (λ (text : List ℕ). text ++ end) first
    ∙ (append_assoc old start end ∙ ap (λ (text : List ℕ). old ++ text) (sym (leaf_text graph none)))))
    ∙ append_assoc old (compact_text (graph_value graph)) below

held_grouped : (old start between list below : List ℕ)
    → ((old ++ start) ++ between) ++ (list ++ below) ≡ old ++ ((start ++ (between ++ list)) ++ below)
held_grouped old start between list below = simp append_assoc

pub held_written : (graph : GraphNode) (graphs : List GraphNode) (below new_below : List Waiting) (w : Waiting)
    → (old head new : List ℕ) → (out-GraphNode graph).parents ≡ graphs → length graphs ≢ 0
    → head ≡ old ++ head_text (out-GraphNode graph).inner → new ≡ head ++ codes ",\"parents\":["
    → new_below ≡ below ++ w ∷ []
    → waiting_text w ≡ items_text false (items_of (map graph_value graphs)) ++ end_text (out-GraphNode graph).repeat
    → new ++ all_text new_below ≡ old ++ (compact_text (graph_value graph) ++ all_text below)
held_written graph graphs below new_below w old head new is some first second pushed waits =
    let start = head_text (out-GraphNode graph).inner in
    let between = codes ",\"parents\":[" in
    let list = items_text false (items_of (map graph_value graphs)) ++ end_text (out-GraphNode graph).repeat in
    ap (λ (text : List ℕ). text ++ all_text new_below)
    (second ∙ ap (λ (text : List ℕ). text ++ between) first)
    ∙ (ap (λ (text : List ℕ). ((old ++ start) ++ between) ++ text)
    (ap all_text pushed ∙ (all_text_push below w ∙ ap (λ (text : List ℕ). text ++ all_text below) waits))
    ∙ (held_grouped old start between list (all_text below)
    ∙ ap (λ (text : List ℕ). old ++ (text ++ all_text below)) (sym (held_text graph graphs is some))))

pub held_less : (graph : GraphNode) (below new_below : List Waiting) (w : Waiting) → new_below ≡ below ++ w ∷ []
    → w.graphs.now ≡ (out-GraphNode graph).parents
    → sum_by waiting_weight new_below < sum_by waiting_weight below + weight graph
held_less graph below new_below w pushed is =
    omega (
      arith,
      ap (sum_by waiting_weight) pushed,
      sum_by_push waiting_weight below w,
      weight_of_parents graph,
      ap (sum_by weight) is,
    )

-- ---- the next tree of those that wait

next_grouped : (old comma text others after below : List ℕ)
    → (old ++ comma) ++ (text ++ ((others ++ after) ++ below))
    ≡ old ++ (((comma ++ (text ++ others)) ++ after) ++ below)
next_grouped old comma text others after below = simp append_assoc

pub next_written : (old mid new : List ℕ) (graph : GraphNode) (graphs : List GraphNode) (top w : Waiting)
    → (below pushed later : List Waiting) → mid ≡ old ++ comma_if top.later → top.graphs.now ≡ graph ∷ graphs
    → pushed ≡ below ++ w ∷ []
    → waiting_text w ≡ items_text true (items_of (map graph_value graphs)) ++ top.after.now
    → new ++ all_text later ≡ mid ++ (compact_text (graph_value graph) ++ all_text pushed)
    → new ++ all_text later ≡ old ++ (waiting_text top ++ all_text below)
next_written old mid new graph graphs top w below pushed later first split push waits written =
    let text = compact_text (graph_value graph) in
    let others = items_text true (items_of (map graph_value graphs)) in
    written
    ∙ (ap (λ (start : List ℕ). start ++ (text ++ all_text pushed)) first
    ∙ (ap (λ (end : List ℕ). (old ++ comma_if top.later) ++ (text ++ end))
    (ap all_text push ∙ (all_text_push below w ∙ ap (λ (end : List ℕ). end ++ all_text below) waits))
    ∙ (next_grouped old (comma_if top.later) text others top.after.now (all_text below)
    ∙ ap (λ (graphs : List GraphNode).
    old ++ ((items_text top.later (items_of (map graph_value graphs)) ++ top.after.now) ++ all_text below))
    (sym split))))

pub all_written : (out later : List ℕ) (below popped : List Waiting) (top : Waiting) (whole : List ℕ)
    → out ++ all_text below ≡ whole → below ≡ popped ++ top ∷ []
    → later ≡ out ++ (waiting_text top ++ all_text popped) → later ≡ whole
all_written out later below popped top whole so pop written =
    written ∙ (ap (λ (text : List ℕ). out ++ text) (sym (all_text_push popped top))
    ∙ (ap (λ (ws : List Waiting). out ++ all_text ws) (sym pop) ∙ so))
