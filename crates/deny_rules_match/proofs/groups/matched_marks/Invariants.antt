use Rattle.std.proofs.Common.{◌≡◌, map, take}
use Rattle.std.specs.List.{list_any}
use Rattle.deny_cfg.specs.SpecView.{spec_view}
use Rattle.deny_spec.specs.Match.{matches}
use Rattle.deny_rules_match.proofs.groups.matched_marks.Given as goal

abbrev pub invariant-loop-spec : goal.invariant-loop-spec
invariant-loop-spec l = l.marks ≡ map (λ c. list_any (λ s. matches s c)
    (map spec_view (take l.spec-index l.specs))) l.krates.crates
