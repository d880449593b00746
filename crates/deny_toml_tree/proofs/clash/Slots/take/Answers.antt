use Rattle.std.proofs.Common.{sym, ◌∙◌, ap, refl}
use Rattle.deny_toml_tree.specs.private.Slots.{occupant_at}
use Rattle.deny_toml_tree.proofs.SlotsLaws.{hold_refused, hold_taken, number_next}
use Rattle.deny_toml_tree.proofs.clash.Slots.take.Goals as goal

pub returns-then-not-may_duplicate : goal.returns-then-not-may_duplicate
returns-then-not-may_duplicate c = λ before reports.
    hold_refused c.args.self.now before c.args.table c.args.role c.args.key.now c.at-there.result reports
    (c.at-there.ensures ∙ ap (occupant_at c.args.self.now c.args.table) c.as_str.ensures)
    (sym c.may_duplicate.ensures ∙ c.if-not-may_duplicate.true)

pub returns : goal.returns
returns c = λ before reports.
    hold_taken c.args.self.now (record { occupants = c.put.new.self.occupants; segments = c.in_ok-number.number })
    before c.args.table c.args.role c.args.key.now c.as_str.result.now c.at-there.result
    c.in_ok-number.number c.after-occupant.result reports c.as_str.ensures c.at-there.ensures
    (sym c.may_duplicate.ensures ∙ c.if-not-may_duplicate.false)
    (number_next c.checked_add.result c.args.self.now.segments c.in_ok-number.number c.in_ok-number.ensures.ok_part
    c.checked_add.ensures) c.after-occupant.ensures refl c.in_ok-put.ensures.each
