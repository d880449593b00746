use Rattle.std.proofs.Common.{◌≡◌, ◌++◌, map, take}
use Rattle.deny_cfg.specs.LicensingView.{exception_view}
use Rattle.deny_gate_licenses.specs.private.Granters.{exception_granter}
use Rattle.deny_gate_licenses.proofs.entries.add_exceptions.Given as goal

abbrev pub invariant-loop-exception : goal.invariant-loop-exception
invariant-loop-exception l = l.granters ≡ l.fn.granters
    ++ map (λ e. exception_granter (exception_view e)) (take l.exception-index l.exceptions)
