use Rattle.std.proofs.Common.{◌≡◌, ◌++◌, drop, map, take}
use Rattle.std.specs.List.{AllZip}
use Rattle.deny_cfg.specs.SpecView.{spec_view}
use Rattle.deny_rules_match.specs.private.Marks.{IsTreeOf}
use Rattle.deny_rules_match.specs.Matches.{spec_match}
use Rattle.deny_rules_match.proofs.facts.trees_of.Given as goal

abbrev pub invariant-loop-entry : goal.invariant-loop-entry
invariant-loop-entry l = record {
  trees : AllZip (IsTreeOf l.krates) (take l.entry-index l.entries) l.trees;
  roots : l.roots ++ map (λ e. spec_match l.krates (spec_view e.spec)) (drop l.entry-index l.entries)
      ≡ l.fn.roots ++ map (λ e. spec_match l.krates (spec_view e.spec)) l.entries;
}
