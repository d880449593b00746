use Rattle.std.proofs.Common.{arith, subst}
use Rattle.deny_base_lists.specs.First.{GainsEntry}
use Rattle.deny_gate_licenses.specs.private.Granters.{allowance_granter}
use Rattle.deny_gate_licenses.specs.private.Grants.{allowance_grant, granter_in, same_wanted}
use Rattle.deny_gate_licenses.proofs.MapLemmas.{finds_next}
use Rattle.deny_gate_licenses.proofs.grants.Grants.of_allowances.Goals as goal

pub loop-licence-preserved : goal.loop-licence-preserved
loop-licence-preserved c =
    finds_next same_wanted allowance_grant c.args.licences.now c.loop-licence.licence-index c.licence-item.result
    (omega (arith, c.loop-licence-test.true)) c.licence-item.is (granter_in c.loop-licence.grants)
    (granter_in c.add.new.self) c.loop-licence.invariant
    (subst (λ w. GainsEntry same_wanted w (allowance_granter c.licence-item.result) (granter_in c.loop-licence.grants)
    (granter_in c.add.new.self)) c.in_ok-of.ensures c.in_ok-add.ensures)
