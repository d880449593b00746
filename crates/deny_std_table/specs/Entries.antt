-- The entries of a table, in the order in which they are checked.
use Rattle.std.specs.Prelude.{ℕ, zero, suc, ◌+◌, Bool, true, nat_lt, List, [], ◌∷◌, length, Option, Some, None, Result}
use Rattle.std.specs.Prelude.{Ok, if◌then◌else◌}
use Rattle.std.specs.Cmp.Lexicographic.{slice_cmp}
use Rattle.std.specs.Ordering.{nat_cmp, is_lt}
use Rattle.deny_std_table.specs.declared.error.ReplacementError.{ReplacementError}
use Rattle.deny_std_table.specs.declared.spans.TextSpan.{TextSpan}
use Rattle.deny_std_table.specs.Spans.{contents}
use Rattle.deny_base_lists.specs.Reader.{◌>>=◌}
use Rattle.deny_std_table.specs.Reading.{◌>>◌, unless_bad}
use Rattle.deny_std_table.specs.Region.{Bounds, Items, text, items}
use Rattle.deny_std_table.specs.Head.{start_of}

-- An entry: the name of its crate, and the items.
pub record Entry : Type 0 where
  pub name : TextSpan
  pub items : Items

-- a name is above the one before it in byte order; the first has none before it
abbrev pub is_above : List ℕ → Option TextSpan → TextSpan → Bool
is_above bytes None name = true
is_above bytes (Some before) name = is_lt (slice_cmp nat_cmp (contents bytes before) (contents bytes name))

-- the entry at an offset: its name, which is above the one before, then its items
unfoldable pub entry : Bounds → Option TextSpan → ℕ → Result Entry ReplacementError
entry b before start = do
  name ← text b start
  unless_bad (is_above b.bytes before name.value) start
  rest ← items b name.next
  Ok (record { name = name.value; items = rest.value })

-- the offset where an entry ends: where the next one begins, or the end of the bytes
unfoldable pub stop_of : List ℕ → ℕ → ℕ → ℕ
stop_of bytes count i = if nat_lt (i + 1) count then start_of bytes (i + 1) else length bytes

-- the bounds of an entry
abbrev pub bounds_of : ℕ → List ℕ → ℕ → ℕ → Bounds
bounds_of width bytes count i = record { bytes = bytes; width = width; stop = stop_of bytes count i }

-- this many entries in order, from this one on
unfoldable pub entries : ℕ → List ℕ → ℕ → Option TextSpan → ℕ → ℕ → Result (List Entry) ReplacementError
entries width bytes count before i zero = Ok []
entries width bytes count before i (suc left) = do
  first ← entry (bounds_of width bytes count i) before (start_of bytes i)
  others ← entries width bytes count (Some first.name) (i + 1) left
  Ok (first ∷ others)
