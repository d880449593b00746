use Rattle.std.proofs.Common.{arith, subst}
use Rattle.deny_base_lists.specs.First.{GainsEntry}
use Rattle.deny_gate_licenses.specs.private.Grants.{grant_by, granter_in, same_wanted}
use Rattle.deny_gate_licenses.proofs.MapLemmas.{finds_behind}
use Rattle.deny_gate_licenses.proofs.grants.Grants.add_each.Goals as goal

pub loop-licence-preserved : goal.loop-licence-preserved
loop-licence-preserved c = λ entries finds.
    finds_behind same_wanted (grant_by c.args.by) c.args.licences.now c.loop-licence.licence-index
    c.licence-item.result (omega (arith, c.loop-licence-test.true)) c.licence-item.is entries
    (granter_in c.loop-licence.self) (granter_in c.add.new.self) (c.loop-licence.invariant entries finds)
    (subst (λ w. GainsEntry same_wanted w c.args.by (granter_in c.loop-licence.self) (granter_in c.add.new.self))
    c.in_ok-of.ensures c.in_ok-add.ensures)
