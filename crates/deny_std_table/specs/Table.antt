-- A table, in the order in which its bytes are checked: head, offsets, entries.
use Rattle.std.specs.Prelude.{◌≡◌, ℕ, List, [], Option, None, Result, Ok, find, bytes_eq}
use Rattle.std.specs.Result.{result_unwrap_or}
use Rattle.deny_std_table.specs.declared.error.ReplacementError.{ReplacementError}
use Rattle.deny_std_table.specs.Spans.{contents}
use Rattle.deny_base_lists.specs.Reader.{◌>>=◌}
use Rattle.deny_std_table.specs.Reading.{◌>>◌}
use Rattle.deny_std_table.specs.Head.{header, count_of, HasOffsets, offsets}
use Rattle.deny_std_table.specs.Entries.{Entry, entries}
use Rattle.deny_std_table.specs.Replacement.{EntryItems}

-- the entries of a table, or its first break
unfoldable pub table : List ℕ → Result (List Entry) ReplacementError
table bytes = do
  width ← header bytes
  count ← count_of bytes
  offsets bytes count 0 count
  entries width bytes count None 0 count

-- A table: its bytes, and the entries in them.
pub record Table : Type 0 where
  pub bytes : List ℕ
  pub entries : List Entry

-- the entry with a name
abbrev pub entry_named : Table → List ℕ → Option Entry
entry_named t name = find (λ e. bytes_eq (contents t.bytes e.name) name) t.entries

-- the items of an entry, with the bytes of the table
abbrev pub items_in : Table → Entry → EntryItems
items_in t e = record { bytes = t.bytes; items = e.items }

-- the entries of a reading that succeeds
abbrev pub read_entries : ℕ → List ℕ → ℕ → List Entry
read_entries width bytes count = result_unwrap_or (entries width bytes count None 0 count) []

-- The entries were read, and so was all before them.
pub record IsRead (width : ℕ) (bytes : List ℕ) (count : ℕ) : Type 0 where
  pub offsets : HasOffsets bytes count
  pub entries : entries width bytes count None 0 count ≡ Ok (read_entries width bytes count)
  pub whole : table bytes ≡ Ok (read_entries width bytes count)
