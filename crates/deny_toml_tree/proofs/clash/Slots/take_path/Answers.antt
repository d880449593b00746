use Rattle.std.proofs.Common.{◌≡◌, ◌+◌, drop, sym, ap, ◌∙◌, arith}
use Rattle.std.specs.Prelude.{if◌then◌else◌}
use Rattle.deny_toml_tree.specs.Clash.{is_empty, hold}
use Rattle.deny_toml_tree.proofs.ClashLaws.{role_last, role_passing, drop_next, walk_on, walk_ends}
use Rattle.deny_toml_tree.proofs.SlotsLaws.{takes_err, walk_refused}
use Rattle.deny_toml_tree.proofs.clash.Slots.take_path.Goals as goal
use Rattle.deny_toml_tree.proofs.clash.Slots.take_path.Goals.{then-part-path, else-part-path}

pub returns-in_err-table : goal.returns-in_err-table
returns-in_err-table c = λ before reports.
    let path = c.args.path.now in
    let l = c.loop-part in
    let (now, walked, known) = l.invariant before reports in
    let role : c.if-part-path.role ≡ (if is_empty (drop (l.part + 1) path) then c.args.last else c.args.passing) =
    elim c.if-part-path.branch [
      | then-part-path w ↦ w.role-is ∙ sym (role_last c.args.passing c.args.last path l.part
          (omega (arith, w.if-part-path.true)))
      | else-part-path w ↦ w.role-is ∙ sym (role_passing c.args.passing c.args.last path l.part
          (omega (arith, w.if-part-path.false, c.loop-part-test.true)))
    ] in
    takes_err c.from_residual.result _ c.take.new.self _ c.in_err-table.field-0.0 _ c.from_residual.ensures.1 (λ y p. p)
    (walk_refused c.in_err-table.field-0.0 c.take.new.self _ now l.table c.args.passing c.args.last c.if-part-path.role
    (drop l.part path) (drop (l.part + 1) path) c.index-path-part.result walked
    (drop_next path l.part c.index-path-part.result (omega (arith, c.loop-part-test.true)) c.index-path-part.is) role
    (c.in_err-table.ensures now known))

pub loop-part-preserved : goal.loop-part-preserved
loop-part-preserved c = λ before reports.
    let path = c.args.path.now in
    let l = c.loop-part in
    let (now, walked, known) = l.invariant before reports in
    let role : c.if-part-path.role ≡ (if is_empty (drop (l.part + 1) path) then c.args.last else c.args.passing) =
    elim c.if-part-path.branch [
      | then-part-path w ↦ w.role-is ∙ sym (role_last c.args.passing c.args.last path l.part
          (omega (arith, w.if-part-path.true)))
      | else-part-path w ↦ w.role-is ∙ sym (role_passing c.args.passing c.args.last path l.part
          (omega (arith, w.if-part-path.false, c.loop-part-test.true)))
    ] in
    let (next, holds, more) = c.in_ok-table.ensures now known in (
      next,
      walked ∙ walk_on now next l.table c.in_ok-table.table c.args.passing c.args.last (drop l.part path)
          (drop (l.part + 1) path) c.index-path-part.result
          (drop_next path l.part c.index-path-part.result (omega (arith, c.loop-part-test.true)) c.index-path-part.is)
          (ap (λ r. hold now l.table r c.index-path-part.result) (sym role) ∙ holds),
      more,
    )

pub returns : goal.returns
returns c = λ before reports.
    let l = c.loop-part in
    let (now, walked, known) = l.invariant before reports in (
      now,
      walked ∙ walk_ends now l.table c.args.passing c.args.last c.args.path.now l.part
          (omega (arith, c.loop-part-test.false)),
      known,
    )
