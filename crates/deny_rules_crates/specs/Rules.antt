-- The rules on crates whose keys are lists, each by the keys of all its entries.
use Rattle.std.specs.Prelude.{List, [], ◌∷◌}
use Rattle.std.specs.List.{flat_map}
use Rattle.deny_base.specs.declared.key.Key.{Key}
use Rattle.deny_spec.specs.Bans.{not_allowed_keys}
use Rattle.deny_spec.specs.Facts as chains
use Rattle.deny_spec.specs.Graph.{Graph}
use Rattle.deny_spec.specs.Policy.{Policy}
use Rattle.deny_spec.specs.Skips.{unmatched_skip_root_keys, unmatched_skip_keys, unnecessary_skip_keys}
use Rattle.deny_spec_report.specs.AllowList.{allowed_keys}
use Rattle.deny_spec_report.specs.Bans.{banned_keys, allowed_by_wrapper_keys, unmatched_wrapper_keys}
use Rattle.deny_spec_report.specs.SkippedTrees.{skipped_by_root_keys}
use Rattle.deny_spec_report.specs.Skips.{skipped_keys}
use Rattle.deny_spec_report.specs.Wrappers.{unused_wrapper_keys}

-- the rules on bans, their wrappers, and the allow list
abbrev pub ban_rules : Policy → Graph → List (List Key)
ban_rules p g = banned_keys p g
    ∷ (allowed_by_wrapper_keys p g
    ∷ (unmatched_wrapper_keys p g
    ∷ (unused_wrapper_keys p g
    ∷ (allowed_keys p g
    ∷ (not_allowed_keys p g ∷ [])))))

-- the rules on skips and skipped trees
abbrev pub skip_rules : Policy → Graph → chains.Facts → List (List Key)
skip_rules p g facts = skipped_keys p g facts
    ∷ (skipped_by_root_keys p g facts
    ∷ (unmatched_skip_keys p g facts
    ∷ (unnecessary_skip_keys p g facts
    ∷ (unmatched_skip_root_keys p g ∷ []))))

-- the keys of rules, one after another
abbrev pub keys_of_rules : List (List Key) → List Key
keys_of_rules rules = flat_map (λ keys. keys) rules
