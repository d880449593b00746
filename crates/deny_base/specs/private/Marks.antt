-- The locations that are kept with a text, so that none is counted from the text's start.
use Rattle.std.specs.Prelude.{◌≡◌, ℕ, ◌+◌, ◌*◌, ◌/◌, ◌<◌, ◌^◌, if◌then◌else◌, List, length, take, slice_index_or}
use Rattle.std.specs.List.{after_last, count_by}
use Rattle.deny_base.specs.Files.{is_newline, begins_character}
use Rattle.deny_base.specs.declared.files.Location.{Location}

-- the location after these bytes: a character is counted at the byte that begins it
unfoldable pub location_after : List ℕ → Location
location_after bytes = record {
  line = count_by is_newline bytes;
  column = count_by begins_character (after_last is_newline bytes);
}

-- the location behind one more byte
abbrev pub past : Location → ℕ → Location
past at byte =
    if is_newline byte then record { line = at.line + 1; column = 0 }
    else record { line = at.line; column = if begins_character byte then at.column + 1 else at.column }

-- the locations of every 256th byte, up to this number of them
pub record AreMarks (text : List ℕ) (steps : ℕ) (marks : List Location) : Type 0 where
  pub count : length marks ≡ steps + 1
  pub each : (k : ℕ) (d : Location) → k < length marks → slice_index_or marks k d ≡ location_after (take (256 * k) text)

-- the invariant of a text with its locations
pub record IsMarked (text : List ℕ) (marks : List Location) : Type 0 where
  pub short : length text < 2 ^ 32
  pub marked : AreMarks text (length text / 256) marks
