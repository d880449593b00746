use Rattle.std.proofs.Common.{◌++◌, ◌∷◌, ℕ, [], List, arith, ap, ◌∙◌}
use Rattle.deny_gate_licenses.specs.private.Granting.{exception_name}
use Rattle.deny_gate_licenses.proofs.MapLemmas.{mapped-more}
use Rattle.deny_gate_licenses.proofs.granting.names_of.Goals as goal

pub loop-exception-preserved : goal.loop-exception-preserved
loop-exception-preserved c =
    mapped-more exception_name c.args.exceptions.now c.loop-exception.exception-index c.exception-item.result
    c.loop-exception.names c.add.new.self (omega (arith, c.loop-exception-test.true)) c.exception-item.is
    c.loop-exception.invariant
    (c.in_ok-add.ensures.ok ∙ ap (λ (name : List ℕ). c.loop-exception.names ++ name ∷ []) c.as_str.ensures)
