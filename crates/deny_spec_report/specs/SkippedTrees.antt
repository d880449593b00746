-- Skipped trees: the keys of all entries, and the message of each key.
use Rattle.std.specs.Prelude.{◌∷◌, ℕ, List, [], None, codes}
use Rattle.std.specs.List.{flat_map}
use Rattle.deny_base.specs.declared.key.Key.{Key}
use Rattle.deny_base.specs.declared.level.Severity.TheVariants as severity
use Rattle.deny_spec.specs.Facts as chains
use Rattle.deny_spec.specs.Graph.{Graph}
use Rattle.deny_spec.specs.Policy.{Policy}
use Rattle.deny_spec.specs.DiagParts.{kid_at, of_crate, primary}
use Rattle.deny_spec.specs.Skips.{skipped_by_root_keys_of}
use Rattle.deny_spec_report.specs.MessageParts.{plainly, root_labels_at}
use Rattle.deny_spec_report.specs.declared.message.Message.{Message}

-- ---- of all entries

abbrev pub skipped_by_root_keys : Policy → Graph → chains.Facts → List Key
skipped_by_root_keys p g facts = flat_map (skipped_by_root_keys_of p g facts) p.skip_tree

-- ---- messages

unfoldable pub skipped_by_root_diag : Policy → Graph → ℕ → Key → Message
skipped_by_root_diag p g file key = plainly severity.Note
    (of_crate (codes "skipping crate '") g key (codes "' due to root skip"))
    (root_labels_at file (codes "matched skip root") p key.entry)
    (kid_at g key.place)

unfoldable pub unmatched_skip_root_diag : ℕ → Key → Message
unmatched_skip_root_diag file key = plainly severity.Warning
    (codes "skip tree root was not found in the dependency graph")
    (primary file key.entry (codes "no crate matched these criteria") ∷ [])
    None
