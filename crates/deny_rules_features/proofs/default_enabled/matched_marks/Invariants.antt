use Rattle.std.proofs.Common.{◌≡◌, map, take}
use Rattle.std.specs.List.{list_any}
use Rattle.deny_spec.specs.Match.{matches}
use Rattle.deny_rules_features.specs.private.FeatureMatches.{entry_of}
use Rattle.deny_rules_features.proofs.default_enabled.matched_marks.Given as goal

abbrev pub invariant-loop-entry : goal.invariant-loop-entry
invariant-loop-entry l = l.marks ≡ map (λ c. list_any (λ e. matches e.spec c)
    (map entry_of (take l.entry-index l.found))) l.krates.crates
