-- The hits of entries, by the crates that they match.
use Rattle.std.specs.Prelude.{Option, option_and_then, option_map, slice_get}
use Rattle.deny_base.specs.declared.entry.EntryKind.{EntryKind}
use Rattle.deny_base.specs.declared.entry.Hit.{Hit}
use Rattle.deny_base.specs.declared.entry.Witness.TheVariants.{Krate}
use Rattle.deny_spec.specs.Graph.{Graph, kid_of}
use Rattle.deny_spec.specs.Hits.{hit_of}
use Rattle.deny_spec.specs.DiagParts.{crate_at}
use Rattle.deny_rules_match.specs.declared.entry_match.EntryMatch.{EntryMatch}

-- the hit of an entry by the first crate that it matches
unfoldable pub entry_hit : Graph → EntryKind → EntryMatch → Option Hit
entry_hit g kind m = option_map (λ c. hit_of kind m.span (Krate (kid_of c)))
    (option_and_then (crate_at g) (slice_get m.places 0))
