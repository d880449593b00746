-- What a table of replacements says of crates, by its bytes.
use Rattle.std.specs.Prelude.{◌≡◌, ℕ, List, [], Option, None, Some, Ok, Err, map, option_map}
use Rattle.std.specs.List.{flat_map}
use Rattle.std.specs.Result.{result_unwrap_or}
use Rattle.deny_std_table.specs.Entries.{Entry}
use Rattle.deny_std_table.specs.Spelling.{ApiText, GroupText, ItemsText, ReplacementText, items_text}
use Rattle.deny_std_table.specs.Table.{Table, entry_named, table}
use Rattle.deny_std_table.specs.declared.error.ReplacementError.TheVariants.{Bad}

-- a replacement that is stable since this minor version of Rust 1
pub record Stable : Type 0 where
  pub minor : ℕ
  pub replacement : ReplacementText

-- all that a table says of a crate, in the order of the table
pub record Items : Type 0 where
  pub stable : List Stable
  pub unstable : List ReplacementText
  pub unavailable : List ApiText

-- what a table says of the crate with a name, if anything
abbrev pub Saying : Type 0
Saying = List ℕ → Option Items

abbrev pub stable_of : GroupText → List Stable
stable_of group = map (λ r. record { minor = group.minor; replacement = r }) group.replacements

abbrev pub items_said : ItemsText → Items
items_said items = record {
  stable = flat_map stable_of items.groups;
  unstable = items.unstable;
  unavailable = items.unavailable;
}

-- what a table says by the entry with the name
unfoldable pub said_in : Table → Saying
said_in t name = option_map (λ e. items_said (items_text t.bytes e.items)) (entry_named t name)

-- what bytes say that may be no table: if they are none, nothing
abbrev pub said_by : List ℕ → Saying
said_by bytes = said_in (record { bytes = bytes; entries = result_unwrap_or (table bytes) [] })

-- ---- optional bytes of a table

-- the bytes of a table; empty where none were given
abbrev pub bytes_of : Option (List ℕ) → List ℕ
bytes_of None = []
bytes_of (Some bytes) = bytes

-- bytes were given, and they are a table
abbrev pub HasTable : Option (List ℕ) → Type 0
HasTable None = ⊥
HasTable (Some bytes) = (entries : List Entry) × (table bytes ≡ Ok entries)

-- no bytes were given, or this is the offset of the first break in them
abbrev pub IsBreakIn : Option (List ℕ) → ℕ → Type 0
IsBreakIn None at = at ≡ 0
IsBreakIn (Some bytes) at = table bytes ≡ Err (Bad at)
