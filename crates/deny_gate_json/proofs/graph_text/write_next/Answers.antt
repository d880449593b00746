use Rattle.std.proofs.Common.{◌≡◌, ap, append-nil, refl, sym, ◌∙◌, ◌++◌, Bool}
use Rattle.serde_json.specs.Written.{comma_if}
use Rattle.deny_gate_json.proofs.WritingLemmas.{next_written}
use Rattle.deny_gate_json.proofs.graph_text.write_next.Goals as goal
use Rattle.deny_gate_json.proofs.graph_text.write_next.Goals.{then-top+in_ok-push_str-in-Some, else-top}

pub returns-in_ok-write_node-in-Some-clause-text : goal.returns-in_ok-write_node-in-Some-clause-text
returns-in_ok-write_node-in-Some-clause-text c =
    let old = c.args.out.now in
    let first : c.if-top.out ≡ old ++ comma_if c.args.top.later = elim c.if-top.branch [
      | then-top+in_ok-push_str-in-Some w ↦ w.out-is
          ∙ (w.in_ok-push_str-in-Some.ensures.ok ∙ ap (λ (b : Bool). old ++ comma_if b) (sym w.if-top.true))
      | else-top w ↦ w.out-is
          ∙ (sym (append-nil old) ∙ ap (λ (b : Bool). old ++ comma_if b) (sym w.if-top.false))
    ] in
    next_written old c.if-top.out c.write_node.new.out c.in-Some.graph.now c.in-Some.graphs.now c.args.top _
    c.args.below.now.items _
    c.write_node.new.below.items
    first c.in-Some.ensures.cases.0 c.in_ok-push-in-Some.ensures.items refl c.in_ok-write_node-in-Some.ensures.text
