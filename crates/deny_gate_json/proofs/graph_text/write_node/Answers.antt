use Rattle.std.proofs.Common.{ap, arith, sym, ◌∙◌, ◌++◌, ℕ, List, ◌≢◌, length, false, eqb-true, eq-eqb}
use Rattle.std.specs.Prelude.{map}
use Rattle.std.proofs.lemmas.List.{nil_from_length}
use Rattle.serde_json.specs.View.{items_of}
use Rattle.serde_json.specs.Written.{items_text}
use Rattle.deny_gate_json.specs.Graphs.{graph_value}
use Rattle.deny_gate_json.proofs.GraphLemmas.{weight_of_parents}
use Rattle.deny_gate_json.proofs.WritingLemmas.{held_less, held_written, leaf_written}
use Rattle.deny_gate_json.proofs.graph_text.write_node.Goals as goal

pub returns-then-is_empty-clause-text : goal.returns-then-is_empty-clause-text
returns-then-is_empty-clause-text c =
    leaf_written c.args.graph.now c.args.out.now _ _ _
    (sym c.as_slice-graphs.ensures
    ∙ nil_from_length c.as_slice-graphs.result.now (eqb-true _ 0 (sym c.is_empty.ensures ∙ c.if-is_empty.true)))
    c.in_ok-write_head.ensures
    (c.in_ok-push_str.ensures.ok ∙ ap (λ (text : List ℕ). c.write_head.new.out ++ text) c.end_text-after.ensures)

pub returns-then-is_empty-clause-less : goal.returns-then-is_empty-clause-less
returns-then-is_empty-clause-less c = omega (arith, weight_of_parents c.args.graph.now)

pub returns-clause-text : goal.returns-clause-text
returns-clause-text c =
    let some : length c.as_slice-graphs.result.now ≢ 0 =
    λ e. cc (eq-eqb (length c.as_slice-graphs.result.now) 0 e, c.is_empty.ensures, c.if-is_empty.false) in
    held_written c.args.graph.now c.as_slice-graphs.result.now c.args.below.now.items _ _ c.args.out.now _ _
    (sym c.as_slice-graphs.ensures) some c.in_ok-write_head.ensures c.in_ok-push_str-2.ensures.ok
    c.in_ok-push.ensures.items
    (ap (λ (text : List ℕ). items_text false (items_of (map graph_value c.as_slice-graphs.result.now)) ++ text)
    c.end_text-after.ensures)

pub returns-clause-less : goal.returns-clause-less
returns-clause-less c =
    held_less c.args.graph.now c.args.below.now.items _ _ c.in_ok-push.ensures.items c.as_slice-graphs.ensures
