-- Skips: the keys of all entries, and the message of each key.
use Rattle.std.specs.Prelude.{◌++◌, ℕ, List, None, codes}
use Rattle.std.specs.List.{flat_map}
use Rattle.deny_base.specs.declared.key.Key.{Key}
use Rattle.deny_base.specs.declared.level.Severity.TheVariants as severity
use Rattle.deny_spec.specs.Facts as chains
use Rattle.deny_spec.specs.Graph.{Graph}
use Rattle.deny_spec.specs.Policy.{Policy}
use Rattle.deny_spec.specs.DiagParts.{kid_at, of_crate, skip_text_at}
use Rattle.deny_spec.specs.Skips.{skipped_keys_of}
use Rattle.deny_spec_report.specs.MessageParts.{plainly, skip_labels_at}
use Rattle.deny_spec_report.specs.declared.message.Message.{Message}

-- ---- of all entries

abbrev pub skipped_keys : Policy → Graph → chains.Facts → List Key
skipped_keys p g facts = flat_map (skipped_keys_of g facts) p.skip

-- ---- messages

unfoldable pub skipped_diag : Policy → Graph → ℕ → Key → Message
skipped_diag p g file key = plainly severity.Note
    (of_crate (codes "crate '") g key (codes "' skipped when checking for duplicates"))
    (skip_labels_at file (codes "skipped here") p key.entry)
    (kid_at g key.place)

unfoldable pub unmatched_skip_diag : Policy → ℕ → Key → Message
unmatched_skip_diag p file key = plainly severity.Warning
    (codes "skipped crate '" ++ (skip_text_at p key.entry ++ codes "' was not encountered"))
    (skip_labels_at file (codes "unmatched skip configuration") p key.entry)
    None

unfoldable pub unnecessary_skip_diag : Policy → ℕ → Key → Message
unnecessary_skip_diag p file key = plainly severity.Warning
    (codes "skip '" ++ (skip_text_at p key.entry ++ codes "' applied to a crate with only one version"))
    (skip_labels_at file (codes "unnecessary skip configuration") p key.entry)
    None
