use Rattle.std.proofs.Common.{◌∙◌, suc, ap}
use Rattle.deny_krates_trees.specs.private.Weights.{weights}
use Rattle.deny_krates_trees.proofs.WeightLemmas.{turns_behind, turns_led, turns_taken, weight-node}
use Rattle.deny_krates_trees.proofs.dropping.drop_root.Goals as goal
use Rattle.deny_krates_trees.proofs.dropping.drop_root.Goals.{then-not-is_empty, else-not-is_empty+in-Krate-1}
use Rattle.deny_krates_trees.proofs.dropping.drop_root.Goals.{else-not-is_empty+in-Feature-1}

pub returns-in_default : goal.returns-in_default
returns-in_default c =
    turns_taken c.args.left.now.items c.pop-in_default.new.self.items c.args.tree c.pop-in_default.result
    c.pop-in_default.ensures.items

pub returns : goal.returns
returns c =
    let left = c.args.left.now.items in
    let rest = c.pop.new.self.items in
    let parents = c.parents.inside.vec.items in
    let behind = ap (λ v. v.items) c.swap.ensures.y_after in
    let led = turns_led left rest parents c.args.tree c.in-Some.next c.parents.view_is c.in-Some.ensures.items in
    elim c.if-not-is_empty.branch [
      | then-not-is_empty w ↦
          rw w.left-is (turns_behind left rest w.put_last.new.left.items parents c.args.tree c.in-Some.next _
          c.parents.view_is
          c.in-Some.ensures.items
          (weight-node _ _ _ ∙ ap (λ trees. suc (weights trees)) (w.from_vec.ensures ∙ behind))
          (rw c.swap.ensures.x_after at w.put_last.ensures))
      | else-not-is_empty+in-Krate-1 w ↦ rw (w.left-is, c.swap.ensures.x_after) led
      | else-not-is_empty+in-Feature-1 w ↦ rw (w.left-is, c.swap.ensures.x_after) led
    ]
