use Rattle.std.proofs.Common.{◌≡◌, map, take}
use Rattle.deny_gate_licenses.specs.private.Granting.{exception_name}
use Rattle.deny_gate_licenses.proofs.granting.names_of.Given as goal

abbrev pub invariant-loop-exception : goal.invariant-loop-exception
invariant-loop-exception l = l.names ≡ map exception_name (take l.exception-index l.exceptions)
