-- Files that labels point into, and the locations of offsets in their texts.
use Rattle.std.specs.Prelude.{ℕ, ◌==◌, Bool, ◌&&◌, ◌||◌, nat_le, nat_lt, if◌then◌else◌, List, length, take, slice_index}
use Rattle.std.specs.Prelude.{slice_get, Option, Some, None}
use Rattle.std.specs.List.{after_last, count_by}
use Rattle.std.specs.Str.{chars}
use Rattle.deny_base.specs.declared.files.File.{File}
use Rattle.deny_base.specs.declared.files.Location.{Location}

abbrev pub is_newline : ℕ → Bool
is_newline character = character == 10

-- the characters of the text before the offset
abbrev pub characters_before : List ℕ → ℕ → List ℕ
characters_before text offset = chars (take offset text)

-- the line is how many newlines stand before the offset, the column how many characters of its line
unfoldable pub location_at : List ℕ → ℕ → Location
location_at text offset = record {
  line = count_by is_newline (characters_before text offset);
  column = length (after_last is_newline (characters_before text offset));
}

-- in UTF-8 a byte from 128 to 191 goes on with a character, and any other begins one
abbrev pub begins_character : ℕ → Bool
begins_character byte = nat_lt byte 128 || nat_le 192 byte

-- a character begins at the offset, or the text ends there; past its end a text reads as 0
abbrev pub is_boundary : List ℕ → ℕ → Bool
is_boundary text offset = nat_le offset (length text) && begins_character (slice_index text offset)

abbrev pub location_of : List ℕ → ℕ → Option Location
location_of text offset = if is_boundary text offset then Some (location_at text offset) else None

abbrev pub location_in_file : Option File → ℕ → Option Location
location_in_file None offset = None
location_in_file (Some file) offset = location_of file.source offset

-- the location of the offset in the file of this id, if there is such a file and the offset is a
-- character boundary of it
abbrev pub location_in : List File → ℕ → ℕ → Option Location
location_in files id offset = location_in_file (slice_get files id) offset
