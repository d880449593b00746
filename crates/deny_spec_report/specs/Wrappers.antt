-- Wrappers: the keys of those that nothing hits, the message of each key, and the hits of the others.
use Rattle.std.specs.Prelude.{◌∷◌, ℕ, List, [], None, filter_map, codes}
use Rattle.std.specs.List.{flat_map}
use Rattle.deny_base.specs.declared.key.Key.{Key}
use Rattle.deny_base.specs.declared.entry.Hit.{Hit}
use Rattle.deny_base.specs.declared.level.Severity.TheVariants as severity
use Rattle.deny_spec.specs.Graph.{Graph}
use Rattle.deny_spec.specs.Policy.{Ban, Policy}
use Rattle.deny_spec.specs.DiagParts.{primary}
use Rattle.deny_spec.specs.Wrappers.{unused_wrapper_keys_of}
use Rattle.deny_spec.specs.Hits.{wrapper_hit}
use Rattle.deny_spec_report.specs.MessageParts.{plainly}
use Rattle.deny_spec_report.specs.declared.message.Message.{Message}

-- ---- of all entries

abbrev pub unused_wrapper_keys : Policy → Graph → List Key
unused_wrapper_keys p g = flat_map (unused_wrapper_keys_of p g) p.deny

-- ---- hits

abbrev pub wrapper_hits_of : Policy → Graph → Ban → List Hit
wrapper_hits_of p g ban = filter_map (wrapper_hit p g ban) ban.wrappers

-- ---- messages

unfoldable pub unused_wrapper_diag : ℕ → Key → Message
unused_wrapper_diag file key = plainly severity.Warning
    (codes "wrapper for banned crate was not encountered")
    (primary file key.entry (codes "unmatched wrapper") ∷ [])
    None
