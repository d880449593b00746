use Rattle.std.proofs.Common.{◌≡◌, ◌++◌, drop}
use Rattle.std.specs.Prelude.{filter_map}
use Rattle.deny_cfg.specs.Clashes.{feature_clash}
use Rattle.deny_cfg.proofs.clashes.put_feature_clashes.Given as goal

abbrev pub invariant-loop-allowed : goal.invariant-loop-allowed
invariant-loop-allowed l =
    l.clashes ++ filter_map (feature_clash l.entry) (drop l.allowed-index l.allowed-items)
    ≡ l.fn.clashes ++ filter_map (feature_clash l.entry) l.allowed-items
