use Rattle.std.proofs.Common.{◌≡◌, ◌++◌, drop}
use Rattle.std.specs.List.{flat_map}
use Rattle.deny_cfg.specs.Clashes.{feature_clashes}
use Rattle.deny_cfg.proofs.clashes.put_features_clashes.Given as goal

abbrev pub invariant-loop-entry : goal.invariant-loop-entry
invariant-loop-entry l =
    l.clashes ++ flat_map feature_clashes (drop l.entry-index l.features)
    ≡ l.fn.clashes ++ flat_map feature_clashes l.features
