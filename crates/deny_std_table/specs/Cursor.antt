-- The items of an entry that are left.
use Rattle.std.specs.Prelude.{ℕ, List, [], ◌++◌, map, Result, Ok}
use Rattle.std.specs.Result.{result_unwrap_or}
use Rattle.deny_std_table.specs.declared.error.ReplacementError.{ReplacementError}
use Rattle.deny_std_table.specs.declared.spans.ItemSpans.{ItemSpans}
use Rattle.deny_std_table.specs.declared.spans.ItemSpans.TheVariants.{Stable}
use Rattle.deny_std_table.specs.declared.spans.Counts.{Counts}
use Rattle.deny_base_lists.specs.Reader.{◌>>=◌}
use Rattle.deny_std_table.specs.Reading.{many}
use Rattle.deny_std_table.specs.declared.cursor.Cursor.{Cursor}
use Rattle.deny_std_table.specs.Width.{width_of}
use Rattle.deny_std_table.specs.Region.{Bounds, bounds, replacement, counted_items}
use Rattle.deny_std_table.specs.Item.{items_of}

-- The items from an offset on, in a group of this minor version with this many replacements left, and with this many
-- groups, unstable and unavailable items after it.
unfoldable pub coming : Bounds → ℕ → ℕ → Counts → ℕ → Result (List ItemSpans) ReplacementError
coming b minor stable counts at = do
  group ← many (replacement b) stable at
  rest ← counted_items b counts group.next
  Ok (map (λ replacement. Stable replacement minor) group.value ++ items_of rest.value)

-- the items that a cursor has left to give
abbrev pub coming_of : Cursor → Result (List ItemSpans) ReplacementError
coming_of c = coming (bounds (width_of c.region.width) c.region.bytes.now c.region.stop) c.minor c.stable c.counts c.at

abbrev pub left_of : Cursor → List ItemSpans
left_of c = result_unwrap_or (coming_of c) []
