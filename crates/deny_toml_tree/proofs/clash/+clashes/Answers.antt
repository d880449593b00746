use Rattle.std.proofs.Common.{ap, ◌∙◌, arith}
use Rattle.deny_toml_tree.specs.Clash.{member_line, clash_after}
use Rattle.deny_toml_tree.proofs.ClashLaws.{map_next, map_end, key_goes, lines_end}
use Rattle.deny_toml_tree.proofs.SlotsLaws.{finds_err, key_refused}
use Rattle.deny_toml_tree.proofs.clash.+clashes.Goals as goal

pub check_members-returns-in_err-take_key : goal.check_members-returns-in_err-take_key
check_members-returns-in_err-take_key t c =
    let members = c.args.members.now in
    let l = c.loop-member in
    let member = c.member-item.result in
    let (now, lines, known) = l.invariant in
    let next = map_next member_line members l.member-index member (omega (arith, c.loop-member-test.true))
    c.member-item.is in
    finds_err c.from_residual.result _ c.in_err-take_key.field-0.0 _ c.from_residual.ensures.1 (λ y p. p)
    (key_refused c.in_err-take_key.field-0.0 c.take_key.new.slots _ now 0 member _
    (lines ∙ ap (clash_after now 0) next) (c.in_err-take_key.ensures now known))

pub check_members-loop-member-preserved : goal.check_members-loop-member-preserved
check_members-loop-member-preserved t c =
    let members = c.args.members.now in
    let l = c.loop-member in
    let member = c.member-item.result in
    let (now, lines, known) = l.invariant in
    let next = map_next member_line members l.member-index member (omega (arith, c.loop-member-test.true))
    c.member-item.is in
    let (after, entered, walked, none, more) = c.in_ok-take_key.ensures now known in
    (after, lines ∙ (ap (clash_after now 0) next ∙ key_goes now after 0 entered member _ walked none), more)

pub check_members-returns : goal.check_members-returns
check_members-returns t c =
    let l = c.loop-member in
    let (now, lines, known) = l.invariant in
    lines ∙ lines_end now 0 _ (map_end member_line c.args.members.now l.member-index
    (omega (arith, c.loop-member-test.false)))
