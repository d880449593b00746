-- A map from texts, as contracts see it.
use Rattle.std.specs.Prelude.{ℕ, List, map, String, string_bytes}
use Rattle.std.specs.Ordering.{nat_cmp}
use Rattle.std.specs.Cmp.Lexicographic.{slice_cmp}
use Rattle.std.specs.FinMap as finite

abbrev pub TextFinMap : Type 0 → Type 0
TextFinMap V = finite.FinMap (slice_cmp nat_cmp) V

-- the entry, with the bytes of its key
abbrev pub with_bytes : {V A : Type 0} → String A × V → List ℕ × V
with_bytes entry = (string_bytes entry.0, entry.1)

-- the map of the entries of a tree
abbrev pub map_of : {V A : Type 0} → List (String A × V) → TextFinMap V
map_of entries = finite.from_entries (map with_bytes entries)
