use Rattle.std.proofs.Common.{◌≡◌, ◌++◌, drop}
use Rattle.std.specs.Prelude.{filter_map}
use Rattle.deny_cfg.specs.Clashes.{wrappers_clash}
use Rattle.deny_cfg.proofs.clashes.put_wrappers_clashes.Given as goal

abbrev pub invariant-loop-entry : goal.invariant-loop-entry
invariant-loop-entry l =
    l.clashes ++ filter_map wrappers_clash (drop l.entry-index l.deny)
    ≡ l.fn.clashes ++ filter_map wrappers_clash l.deny
