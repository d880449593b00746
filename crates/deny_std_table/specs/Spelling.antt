-- The texts of a table, and the bytes of version 2 that spell them, none of which is ignored.
use Rattle.std.specs.Prelude.{◌≡◌, ℕ, zero, suc, ◌+◌, ◌*◌, ◌%◌, ◌/◌, List, [], ◌∷◌, ◌++◌, Option, Some, None, Ok}
use Rattle.std.specs.Prelude.{length, map, flat_map, option_map}
use Rattle.deny_std_table.specs.declared.spans.ApiSpans.{ApiSpans}
use Rattle.deny_std_table.specs.declared.spans.ReplacementSpans.{ReplacementSpans}
use Rattle.deny_std_table.specs.Spans.{contents}
use Rattle.deny_std_table.specs.Region.{Group, Items}
use Rattle.deny_std_table.specs.Entries.{Entry}
use Rattle.deny_std_table.specs.Table.{Table, table}

pub record ApiText : Type 0 where
  pub name : List ℕ
  pub url : List ℕ

pub record ReplacementText : Type 0 where
  pub krate : ApiText
  pub std : ApiText
  pub note : Option (List ℕ)

pub record GroupText : Type 0 where
  pub minor : ℕ
  pub replacements : List ReplacementText

pub record ItemsText : Type 0 where
  pub groups : List GroupText
  pub unstable : List ReplacementText
  pub unavailable : List ApiText

pub record EntryText : Type 0 where
  pub name : List ℕ
  pub items : ItemsText

-- the texts of an API, a replacement, a group, items and an entry, from their spans
abbrev pub api_text : List ℕ → ApiSpans → ApiText
api_text bytes a = record { name = contents bytes a.name; url = contents bytes a.url }

abbrev pub replacement_text : List ℕ → ReplacementSpans → ReplacementText
replacement_text bytes r = record {
  krate = api_text bytes r.krate;
  std = api_text bytes r.std;
  note = option_map (contents bytes) r.note;
}

abbrev pub group_text : List ℕ → Group → GroupText
group_text bytes g = record { minor = g.minor; replacements = map (replacement_text bytes) g.replacements }

abbrev pub items_text : List ℕ → Items → ItemsText
items_text bytes i = record {
  groups = map (group_text bytes) i.groups;
  unstable = map (replacement_text bytes) i.unstable;
  unavailable = map (api_text bytes) i.unavailable;
}

abbrev pub entry_text : List ℕ → Entry → EntryText
entry_text bytes e = record { name = contents bytes e.name; items = items_text bytes e.items }

-- the texts of the entries in these bytes
abbrev pub texts_of : List ℕ → List Entry → List EntryText
texts_of bytes es = map (entry_text bytes) es

-- a number in this many bytes, little endian
abbrev pub number_bytes : ℕ → ℕ → List ℕ
number_bytes zero n = []
number_bytes (suc width) n = n % 256 ∷ number_bytes width (n / 256)

abbrev pub text_bytes : List ℕ → List ℕ
text_bytes text = number_bytes 2 (length text) ++ text

unfoldable pub api_bytes : ApiText → List ℕ
api_bytes a = text_bytes a.name ++ text_bytes a.url

abbrev pub note_bytes : Option (List ℕ) → List ℕ
note_bytes None = text_bytes []
note_bytes (Some note) = text_bytes note

unfoldable pub replacement_bytes : ReplacementText → List ℕ
replacement_bytes r = api_bytes r.krate ++ (api_bytes r.std ++ note_bytes r.note)

unfoldable pub group_bytes : GroupText → List ℕ
group_bytes g = (g.minor ∷ length g.replacements ∷ []) ++ flat_map replacement_bytes g.replacements

unfoldable pub items_bytes : ItemsText → List ℕ
items_bytes i = (length i.groups ∷ length i.unstable ∷ length i.unavailable ∷ [])
    ++ (flat_map group_bytes i.groups ++ (flat_map replacement_bytes i.unstable ++ flat_map api_bytes i.unavailable))

unfoldable pub entry_bytes : EntryText → List ℕ
entry_bytes e = text_bytes e.name ++ items_bytes e.items

-- the offset of each entry, the first of which begins at this one
abbrev pub offset_bytes : ℕ → List EntryText → List ℕ
offset_bytes at [] = []
offset_bytes at (e ∷ es) = number_bytes 4 at ++ offset_bytes (at + length (entry_bytes e)) es

-- the bytes of a table of version 2: mark and version, the number of entries, their offsets, and the entries
unfoldable pub table_bytes : List EntryText → List ℕ
table_bytes es = (0xcd ∷ 0xcd ∷ 0xcd ∷ 2 ∷ []) ++ (number_bytes 4 (length es)
    ++ (offset_bytes (8 + 4 * length es) es ++ flat_map entry_bytes es))

-- the bytes of version 2 for a table
abbrev pub upgraded : Table → List ℕ
upgraded t = table_bytes (texts_of t.bytes t.entries)

-- The bytes are a table that says the same: names, numbers and items in the same order, each text byte for byte.
pub record SaysTheSame (t : Table) (bytes : List ℕ) : Type 0 where
  pub entries : List Entry
  pub read : table bytes ≡ Ok entries
  pub says : texts_of bytes entries ≡ texts_of t.bytes t.entries
