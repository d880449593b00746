-- The bytes of an entry, from its name to its last item, in the order in which they are read. The first break ends the
-- reading: a text breaks at its length, a missing byte at the end of the entry, a number that is 0 at its offset.
use Rattle.std.specs.Prelude.{ℕ, ◌+◌, ◌==◌, ◌&&◌, nat_lt, nat_le, List, Option, Some, None, Result, Ok, Err}
use Rattle.std.specs.Prelude.{slice_index, if◌then◌else◌}
use Rattle.std.specs.Str.{is_utf8}
use Rattle.deny_std_table.specs.declared.error.ReplacementError.{ReplacementError}
use Rattle.deny_std_table.specs.declared.error.ReplacementError.TheVariants.{Bad}
use Rattle.deny_std_table.specs.declared.spans.TextSpan.{TextSpan}
use Rattle.deny_std_table.specs.declared.spans.ApiSpans.{ApiSpans}
use Rattle.deny_std_table.specs.declared.spans.ReplacementSpans.{ReplacementSpans}
use Rattle.deny_std_table.specs.declared.spans.Counts.{Counts}
use Rattle.deny_std_table.specs.declared.spans.GroupHead.{GroupHead}
use Rattle.deny_std_table.specs.declared.spans.Read.{Read}
use Rattle.deny_std_table.specs.Spans.{contents}
use Rattle.deny_base_lists.specs.Reader.{◌>>=◌}
use Rattle.deny_std_table.specs.Reading.{◌>>◌, unless_bad, read, number, many}

-- The bytes of a table, the offset where the entry ends, and the number of bytes of the length of a text.
pub record Bounds : Type 0 where
  pub bytes : List ℕ
  pub width : ℕ
  pub stop : ℕ

-- the bounds of a region
abbrev pub bounds : ℕ → List ℕ → ℕ → Bounds
bounds width bytes stop = record { bytes = bytes; width = width; stop = stop }

-- a single byte; where it is missing, the entry's end is the break
unfoldable pub byte : Bounds → ℕ → Result (Read ℕ) ReplacementError
byte b at = if nat_lt at b.stop then Ok (read (slice_index b.bytes at) (at + 1)) else Err (Bad b.stop)

-- the span of the text whose length is at an offset
abbrev pub text_span : Bounds → ℕ → TextSpan
text_span b at = record { at = at + b.width; size = number b.width b.bytes at }

-- a text: its length, then that many bytes of UTF-8, all inside the entry
unfoldable pub text : Bounds → ℕ → Result (Read TextSpan) ReplacementError
text b at =
    let span = text_span b at in
    let next = span.at + span.size in
    if nat_le span.at b.stop && nat_le next b.stop && is_utf8 (contents b.bytes span)
    then Ok (read span next) else Err (Bad at)

-- an API: its name, its address
unfoldable pub api : Bounds → ℕ → Result (Read ApiSpans) ReplacementError
api b at = do
  name ← text b at
  url ← text b name.next
  Ok (read (record { name = name.value; url = url.value }) url.next)

-- the note of a replacement, which is none where it is empty
abbrev pub nonempty_note : TextSpan → Option TextSpan
nonempty_note span = if span.size == 0 then None else Some span

-- a replacement: the API of the crate, the API of std, a note
unfoldable pub replacement : Bounds → ℕ → Result (Read ReplacementSpans) ReplacementError
replacement b at = do
  krate ← api b at
  std ← api b krate.next
  note ← text b std.next
  Ok (read (record { krate = krate.value; std = std.value; note = nonempty_note note.value }) note.next)

-- Replacements that are stable since one minor version.
pub record Group : Type 0 where
  pub minor : ℕ
  pub replacements : List ReplacementSpans

-- the head of a group: its minor version, and the number of its replacements, which is not 0
unfoldable pub group_head : Bounds → ℕ → Result (Read GroupHead) ReplacementError
group_head b at = do
  minor ← byte b at
  count ← byte b minor.next
  unless_bad (nat_lt 0 count.value) minor.next
  Ok (read (record { minor = minor.value; count = count.value }) count.next)

-- a group: its head, and its replacements
unfoldable pub group : Bounds → ℕ → Result (Read Group) ReplacementError
group b at = do
  head ← group_head b at
  replacements ← many (replacement b) head.value.count head.next
  Ok (read (record { minor = head.value.minor; replacements = replacements.value }) replacements.next)

-- the numbers of groups, unstable and unavailable items
unfoldable pub counts : Bounds → ℕ → Result (Read Counts) ReplacementError
counts b at = do
  groups ← byte b at
  unstable ← byte b groups.next
  unavailable ← byte b unstable.next
  Ok (read (record { groups = groups.value; unstable = unstable.value; unavailable = unavailable.value })
      unavailable.next)

-- All items of an entry.
pub record Items : Type 0 where
  pub groups : List Group
  pub unstable : List ReplacementSpans
  pub unavailable : List ApiSpans

-- this many groups, unstable and unavailable items; the bytes after the last one are ignored
unfoldable pub counted_items : Bounds → Counts → ℕ → Result (Read Items) ReplacementError
counted_items b count at = do
  groups ← many (group b) count.groups at
  unstable ← many (replacement b) count.unstable groups.next
  unavailable ← many (api b) count.unavailable unstable.next
  Ok (read (record { groups = groups.value; unstable = unstable.value; unavailable = unavailable.value })
      unavailable.next)

-- the items, after their numbers
unfoldable pub items : Bounds → ℕ → Result (Read Items) ReplacementError
items b at = do
  count ← counts b at
  counted_items b count.value count.next
