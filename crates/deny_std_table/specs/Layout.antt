-- The layout of a table: which bytes spell which entries, apart from the order in which they are checked.
use Rattle.std.specs.Prelude.{◌≡◌, ◌⊎◌, ℕ, ◌+◌, ◌<◌, ◌≤◌, List, [], ◌∷◌, length, take, Some, slice_index, slice_get}
use Rattle.std.specs.Prelude.{IsUtf8}
use Rattle.std.specs.Cmp.Lexicographic.{slice_cmp}
use Rattle.std.specs.Ordering.{nat_cmp}
use Rattle.std.specs.declared.cmp.Ordering.TheVariants.{Less}
use Rattle.deny_std_table.specs.declared.spans.TextSpan.{TextSpan}
use Rattle.deny_std_table.specs.declared.spans.ApiSpans.{ApiSpans}
use Rattle.deny_std_table.specs.declared.spans.ReplacementSpans.{ReplacementSpans}
use Rattle.deny_std_table.specs.Spans.{contents}
use Rattle.deny_std_table.specs.Reading.{number}
use Rattle.deny_std_table.specs.Region.{Bounds, Group, Items, nonempty_note}
use Rattle.deny_std_table.specs.Head.{HasOffsets, start_of}
use Rattle.deny_std_table.specs.Entries.{Entry, bounds_of}

-- A byte is at an offset, and `next` is the offset after it.
pub record IsByte (b : Bounds) (at value next : ℕ) : Type 0 where
  pub inside : at < b.stop
  pub is : value ≡ slice_index b.bytes at
  pub after : next ≡ at + 1

-- A text: its length, then that many bytes of UTF-8, not past the entry's end.
pub record IsText (b : Bounds) (at : ℕ) (span : TextSpan) (next : ℕ) : Type 0 where
  pub after_length : span.at ≡ at + b.width
  pub size : span.size ≡ number b.width b.bytes at
  pub after : next ≡ span.at + span.size
  pub inside : next ≤ b.stop
  pub utf8 : IsUtf8 (contents b.bytes span)

-- An API: a name, then an address.
pub record IsApi (b : Bounds) (at : ℕ) (spans : ApiSpans) (next : ℕ) : Type 0 where
  pub after_name : ℕ
  pub name : IsText b at spans.name after_name
  pub url : IsText b after_name spans.url next

-- A replacement: the API of the crate, the API of std, and a note, which is none where it is empty.
pub record IsReplacement (b : Bounds) (at : ℕ) (spans : ReplacementSpans) (next : ℕ) : Type 0 where
  pub after_krate : ℕ
  pub after_std : ℕ
  pub note_span : TextSpan
  pub krate : IsApi b at spans.krate after_krate
  pub std : IsApi b after_krate spans.std after_std
  pub note_text : IsText b after_std note_span next
  pub note : spans.note ≡ nonempty_note note_span

-- parts of one kind, each right after the one before
pub data IsRow {A : Type 0} (IsOne : ℕ → A → ℕ → Type 0) : ℕ → List A → ℕ → Type 0 where
  ended : {at : ℕ} → IsRow IsOne at [] at
  more : {at between next : ℕ} {x : A} {xs : List A} → IsOne at x between → IsRow IsOne between xs next
      → IsRow IsOne at (x ∷ xs) next

-- A group: the minor version, the number of its replacements, which is not 0, and the replacements.
pub record IsGroup (b : Bounds) (at : ℕ) (group : Group) (next : ℕ) : Type 0 where
  pub after_minor : ℕ
  pub after_count : ℕ
  pub minor : IsByte b at group.minor after_minor
  pub count : IsByte b after_minor (length group.replacements) after_count
  pub some : 0 < length group.replacements
  pub replacements : IsRow (IsReplacement b) after_count group.replacements next

-- The items of an entry: the numbers of groups, unstable and unavailable items, and the items.
pub record IsItems (b : Bounds) (at : ℕ) (items : Items) (next : ℕ) : Type 0 where
  pub after_groups : ℕ
  pub after_unstable : ℕ
  pub after_counts : ℕ
  pub groups_count : IsByte b at (length items.groups) after_groups
  pub unstable_count : IsByte b after_groups (length items.unstable) after_unstable
  pub unavailable_count : IsByte b after_unstable (length items.unavailable) after_counts
  pub unstable_at : ℕ
  pub unavailable_at : ℕ
  pub groups : IsRow (IsGroup b) after_counts items.groups unstable_at
  pub unstable : IsRow (IsReplacement b) unstable_at items.unstable unavailable_at
  pub unavailable : IsRow (IsApi b) unavailable_at items.unavailable next

-- An entry: a name, then the items. The bytes after the last one are ignored.
pub record IsEntry (b : Bounds) (at : ℕ) (entry : Entry) : Type 0 where
  pub after_name : ℕ
  pub next : ℕ
  pub name : IsText b at entry.name after_name
  pub items : IsItems b after_name entry.items next

-- A table: its mark and its version, 1 or 2, which is the number of bytes of the length of a text; the number of its
-- entries, their offsets, and each entry in the bytes from its offset to the next one. The names ascend in byte order.
pub record IsTable (bytes : List ℕ) (entries : List Entry) : Type 0 where
  pub width : ℕ
  pub known : (width ≡ 1) ⊎ (width ≡ 2)
  pub mark : take 4 bytes ≡ 0xcd ∷ 0xcd ∷ 0xcd ∷ width ∷ []
  pub some : 0 < length entries
  pub count : number 4 bytes 4 ≡ length entries
  pub offsets : HasOffsets bytes (length entries)
  pub each : (i : ℕ) (e : Entry) → slice_get entries i ≡ Some e
      → IsEntry (bounds_of width bytes (length entries) i) (start_of bytes i) e
  pub rising : (i : ℕ) (e f : Entry) → slice_get entries i ≡ Some e → slice_get entries (i + 1) ≡ Some f
      → slice_cmp nat_cmp (contents bytes e.name) (contents bytes f.name) ≡ Less
