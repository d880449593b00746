-- The keys of skips and skipped trees, by the crates that they match.
use Rattle.std.specs.Prelude.{◌&&◌, ℕ, Bool, not, List, length, map, nat_le, nat_lt}
use Rattle.deny_base.specs.declared.code.Code.TheVariants.{Skipped}
use Rattle.deny_base.specs.declared.key.Key.{Key}
use Rattle.deny_spec.specs.Facts.{Facts}
use Rattle.deny_spec.specs.Graph.{Graph}
use Rattle.deny_spec.specs.Groups.{reduced}
use Rattle.deny_spec.specs.Keys.{crate_key}
use Rattle.deny_spec.specs.Policy.{Policy}
use Rattle.deny_rules_match.specs.Marks.{mark_at}
use Rattle.deny_rules_match.specs.declared.entry_match.EntryMatch.{EntryMatch}

-- the keys of the crates of a skip
unfoldable pub skipped_keys_by : EntryMatch → List Key
skipped_keys_by m = map (λ place. crate_key Skipped place m.span) m.places

-- an entry matches a crate
unfoldable pub does_match : EntryMatch → Bool
does_match m = nat_lt 0 (length m.places)

-- a skip matches a crate whose name has at most one crate in its reduced group
unfoldable pub is_needless_by : Policy → Graph → Facts → EntryMatch → Bool
is_needless_by p g facts m = does_match m && nat_le (length (reduced p g facts m.name)) 1

-- the crate at a place counts, no skip matches it, and it is in the tree
unfoldable pub is_left_out : List Bool → List Bool → List Bool → ℕ → Bool
is_left_out counts skipped tree place = mark_at counts place && (not (mark_at skipped place) && mark_at tree place)
