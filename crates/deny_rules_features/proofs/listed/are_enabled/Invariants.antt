use Rattle.std.proofs.Common.{◌≡◌, drop}
use Rattle.std.specs.List.{list_all}
use Rattle.deny_rules_features.specs.private.Listed.{is_among}
use Rattle.deny_rules_features.proofs.listed.are_enabled.Given as goal

abbrev pub invariant-loop-name : goal.invariant-loop-name
invariant-loop-name l = list_all (is_among l.enabled) (drop l.name-index l.listed)
    ≡ list_all (is_among l.enabled) l.listed
