use Rattle.std.proofs.Common.{refl, ◌∙◌}
use Rattle.deny_rules_crates.proofs.duplicates.duplicate_policy_of.Goals as goal

pub returns : goal.returns
returns c = record {
  groups = c.args.found.now.grouped;
  denied = c.as_slice.ensures ∙ c.args.found.now.several_marked;
  level = refl;
}
