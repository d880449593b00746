-- Reading a text as JSON by its grammar, however deep it nests.
use Rattle.std.specs.Prelude.{◌≡◌, ◌<◌, ◌≤◌, ◌^◌, ◌++◌, ◌∷◌, [], ℕ, List, All, Some, length, map, ⊤}
use Rattle.std.specs.Cmp.Lexicographic.{slice_cmp}
use Rattle.std.specs.List.{slice_split}
use Rattle.std.specs.Ordering.{nat_cmp}
use Rattle.std.specs.declared.cmp.Ordering.TheVariants.{Less}
use Rattle.json.specs.Json as json
use Rattle.json.specs.Lex.{tokens}
use Rattle.json.specs.Tree.{json_tokens}
use Rattle.serde_json.specs.Data.{Data, null, boolean, number, string, array, object, Num, unsigned, negative, float}
use Rattle.serde_json.specs.Data.{Items, no_items, item, Members, no_members, member, depth}
use Rattle.serde_json.specs.Read.{max_depth, of_json, read}
use Rattle.serde_json.specs.Written.{compact_text}
use Rattle.deny_base.specs.Files.{is_newline}
use Rattle.deny_base.specs.declared.files.File.{File}
use Rattle.deny_base.specs.declared.label.Label.{Label}
use Rattle.deny_gate_json.specs.Labels.{label_value}

-- The text is this value in JSON: its tokens are those of one tree, which is read as the value. `serde_json` itself
-- reads texts that nest no deeper than 127 levels, and reads this value from them.
pub record IsJsonOf (text : List ℕ) (value : Data) : Type 0 where
  pub tree : json.Json
  pub spells : tokens text ≡ json_tokens tree
  pub reads : of_json tree ≡ Some value
  pub reads_back : depth value ≤ max_depth → read text ≡ Some value

-- The text has a line for each of these values, in their order, and nothing besides: split at its newlines it is the
-- texts of the values, with nothing behind the last newline. Each of these texts is its value in JSON.
pub record AreJsonLines (text : List ℕ) (values : List Data) : Type 0 where
  pub split : slice_split is_newline text ≡ map compact_text values ++ [] ∷ []
  pub are_json : All (λ value. IsJsonOf (compact_text value) value) values

-- ---- values that are read back from their texts

abbrev IsWhole : Num → Type 0
IsWhole (unsigned n) = n < 2 ^ 64
IsWhole (negative z) = ⊥
IsWhole (float x) = ⊥

-- the key comes before that of the next member
abbrev pub IsBeforeNext : List ℕ → Members → Type 0
IsBeforeNext key no_members = ⊤
IsBeforeNext key (member next value others) = slice_cmp nat_cmp key next ≡ Less

-- numbers are whole and fit 64 bits, and the keys of each object ascend
abbrev mutual
  pub IsPlain : Data → Type 0
  IsPlain null = ⊤
  IsPlain (boolean b) = ⊤
  IsPlain (number n) = IsWhole n
  IsPlain (string s) = ⊤
  IsPlain (array values) = ItemsArePlain values
  IsPlain (object members) = MembersArePlain members

  pub ItemsArePlain : Items → Type 0
  ItemsArePlain no_items = ⊤
  ItemsArePlain (item value others) = IsPlain value × ItemsArePlain others

  pub MembersArePlain : Members → Type 0
  MembersArePlain no_members = ⊤
  MembersArePlain (member key value others) = IsBeforeNext key others × IsPlain value × MembersArePlain others

-- files whose lines and columns are numbers of 64 bits
abbrev pub AreShort : List File → Type 0
AreShort = All (λ file. length file.source < 2 ^ 63)

-- a label whose line and column are numbers of 64 bits, as those of every reported label are
unfoldable pub IsCounted : List File → Label → Type 0
IsCounted files label = IsPlain (label_value files label)

abbrev pub AreCounted : List File → List Label → Type 0
AreCounted files labels = All (IsCounted files) labels
