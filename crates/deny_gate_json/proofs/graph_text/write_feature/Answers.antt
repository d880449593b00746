use Rattle.std.proofs.Common.{refl}
use Rattle.deny_krates_trees.specs.declared.node.NodeInner.TheVariants.{Feature}
use Rattle.deny_gate_json.proofs.WritingLemmas.{feature_written}
use Rattle.deny_gate_json.proofs.graph_text.write_feature.Goals as goal

pub returns : goal.returns
returns c =
    feature_written c.args.out.now _ _ c.args.crate_name.now c.args.name.now
    (Feature c.args.crate_name.now c.args.name.now) _ refl c.in_ok-push_str.ensures.ok c.in_ok-feature.ensures
    c.in_ok-write_value.ensures
