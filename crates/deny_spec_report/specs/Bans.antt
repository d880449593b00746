-- Bans and their wrappers: the keys of all entries, and the message of each key.
use Rattle.std.specs.Prelude.{◌++◌, ℕ, Bool, List, [], option_and_then, codes}
use Rattle.std.specs.List.{flat_map}
use Rattle.std.specs.Option.{option_map_or}
use Rattle.deny_base.specs.declared.key.Key.{Key}
use Rattle.deny_base.specs.declared.label.Label.{Label}
use Rattle.deny_base.specs.declared.level.Severity.TheVariants as severity
use Rattle.deny_spec.specs.Graph.{Crate, Graph}
use Rattle.deny_spec.specs.Policy as policy
use Rattle.deny_spec.specs.Policy.{Policy}
use Rattle.deny_spec.specs.DiagParts.{ban_at, crate_at, crate_text_at, kid_at, of_crate, wrapper_labels}
use Rattle.deny_spec.specs.Text.{same_text}
use Rattle.deny_spec.specs.Bans.{allowed_by_wrapper_keys_of, banned_keys_of, unmatched_wrapper_keys_of, wrapper_of}
use Rattle.deny_spec_report.specs.MessageParts.{ban_labels_at, plainly}
use Rattle.deny_spec_report.specs.declared.message.Message.{Message}

-- a wrapper has a crate's name
abbrev pub bears_name : policy.SpannedText → Crate → Bool
bears_name w parent = same_text w.value parent.name

-- ---- of all entries

abbrev pub banned_keys : Policy → Graph → List Key
banned_keys p g = flat_map (banned_keys_of p g) p.deny

abbrev pub allowed_by_wrapper_keys : Policy → Graph → List Key
allowed_by_wrapper_keys p g = flat_map (allowed_by_wrapper_keys_of p g) p.deny

abbrev pub unmatched_wrapper_keys : Policy → Graph → List Key
unmatched_wrapper_keys p g = flat_map (unmatched_wrapper_keys_of p g) p.deny

-- ---- messages

unfoldable pub banned_diag : Policy → Graph → ℕ → Key → Message
banned_diag p g file key = plainly severity.Error
    (of_crate (codes "crate '") g key (codes "' is explicitly banned"))
    (ban_labels_at file (codes "banned here") p key.entry)
    (kid_at g key.place)

abbrev pub wrapper_labels_at : ℕ → Policy → Graph → Key → List Label
wrapper_labels_at file p g key = option_map_or
    (λ ban. wrapper_labels file ban (option_and_then (wrapper_of ban.wrappers) (crate_at g key.other)))
    (ban_at p key.entry) []

unfoldable pub allowed_by_wrapper_diag : Policy → Graph → ℕ → Key → Message
allowed_by_wrapper_diag p g file key = plainly severity.Note
    (of_crate (codes "banned crate '") g key (codes "' allowed by wrapper '" ++
    (crate_text_at g key.other ++ codes "'")))
    (wrapper_labels_at file p g key)
    (kid_at g key.place)

unfoldable pub unmatched_wrapper_diag : Policy → Graph → ℕ → Key → Message
unmatched_wrapper_diag p g file key = plainly severity.Warning
    (codes "direct parent '" ++ (crate_text_at g key.other
    ++ of_crate (codes "' of banned crate '") g key (codes "' was not marked as a wrapper")))
    (ban_labels_at file (codes "banned here") p key.entry)
    (kid_at g key.place)
