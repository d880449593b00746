use Rattle.std.proofs.Common.{sym, ◌∙◌}
use Rattle.deny_gate_licenses.specs.private.Grants.{granter_in}
use Rattle.deny_gate_licenses.proofs.MapLemmas.{gains_kept, gains_put}
use Rattle.deny_gate_licenses.proofs.OrderLemmas.{wanted_cmp-exact, wanted_cmp-total}
use Rattle.deny_gate_licenses.proofs.grants.Grants.add.Goals as goal

pub returns-then-has : goal.returns-then-has
returns-then-has c = gains_kept wanted_cmp-total wanted_cmp-exact (granter_in c.args.self.now) c.args.wanted c.args.by
    (sym c.has.ensures ∙ c.if-has.true)

pub returns : goal.returns
returns c = gains_put wanted_cmp-total wanted_cmp-exact (granter_in c.args.self.now)
    (granter_in (record { granters = c.insert.new.self })) c.args.wanted c.args.by
    (sym c.has.ensures ∙ c.if-has.false) c.in_ok-insert.ensures.updates.0
