-- The allow list: the keys of all entries, and the message of each key.
use Rattle.std.specs.Prelude.{ℕ, List, [], codes}
use Rattle.std.specs.List.{flat_map}
use Rattle.deny_base.specs.declared.key.Key.{Key}
use Rattle.deny_base.specs.declared.level.Severity.TheVariants as severity
use Rattle.deny_spec.specs.Graph.{Graph}
use Rattle.deny_spec.specs.Policy.{Policy}
use Rattle.deny_spec.specs.DiagParts.{kid_at, of_crate}
use Rattle.deny_spec.specs.Bans.{allowed_keys_of}
use Rattle.deny_spec_report.specs.MessageParts.{allow_labels_at, plainly}
use Rattle.deny_spec_report.specs.declared.message.Message.{Message}

-- ---- of all entries

abbrev pub allowed_keys : Policy → Graph → List Key
allowed_keys p g = flat_map (allowed_keys_of g) p.allow

-- ---- messages

unfoldable pub allowed_diag : Policy → Graph → ℕ → Key → Message
allowed_diag p g file key = plainly severity.Note
    (of_crate (codes "crate '") g key (codes "' is explicitly allowed"))
    (allow_labels_at file (codes "allowed here") p key.entry)
    (kid_at g key.place)

unfoldable pub not_allowed_diag : Graph → Key → Message
not_allowed_diag g key = plainly severity.Error
    (of_crate (codes "crate '") g key (codes "' is not explicitly allowed")) [] (kid_at g key.place)
