use Rattle.std.proofs.Common.{◌≡◌, ◌++◌, drop, map, take}
use Rattle.std.specs.List.{list_any}
use Rattle.deny_cfg.specs.PolicyView.{entry_view}
use Rattle.deny_spec.specs.Match.{matches}
use Rattle.deny_rules_match.specs.Marks.{facts_of}
use Rattle.deny_rules_match.specs.Matches.{skip_match}
use Rattle.deny_rules_match.proofs.groups.skipped_of.Given as goal

abbrev pub invariant-loop-skip : goal.invariant-loop-skip
invariant-loop-skip l = record {
  marks : l.skipped ≡ map (λ c. list_any (λ s. matches s.spec c)
      (map entry_view (take l.skip-index l.skips))) l.krates.crates;
  found : l.found ++ map (λ s. skip_match l.krates (facts_of l.marks) (entry_view s)) (drop l.skip-index l.skips)
      ≡ l.fn.found ++ map (λ s. skip_match l.krates (facts_of l.marks) (entry_view s)) l.skips;
}
