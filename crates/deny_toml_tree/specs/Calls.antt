-- The kinds of a value, and the values below it.
use Rattle.std.specs.Prelude.{ℕ, ◌+◌, ◌*◌, ◌-◌, ℤ, Bool, ◌&&◌, ◌==◌, false, not, List, [], ◌∷◌, Option, None, Some}
use Rattle.std.specs.Prelude.{nat_le, option_map, option_and_then, find, length, slice_get, if◌then◌else◌}
use Rattle.std.specs.List.{slice_split}
use Rattle.std.specs.Option.{option_map_or}
use Rattle.std.specs.Cmp.Lexicographic.{pointwise}
use Rattle.std.specs.Prelude.{nat_eq}
use Rattle.deny_toml_grammar.specs.declared.parts.Key.{Key}
use Rattle.deny_toml_tree.specs.declared.value.Value.{Value}
use Rattle.deny_toml_tree.specs.declared.value.Table.{Table}
use Rattle.deny_toml_tree.specs.declared.value.Content.{Content, out-Content}
use Rattle.deny_toml_tree.specs.declared.value.Content.TheOpen.{Content-F}
use Rattle.deny_toml_grammar.specs.declared.parts.Scalar.{Scalar}
use Rattle.deny_toml_grammar.specs.declared.parts.Scalar.TheVariants as scalar
use Rattle.deny_toml_tree.specs.Value.{span_in, content_in, entries_in}

-- one layer of a value
abbrev pub Layer : Type 0
Layer = Content-F Content Table Value

abbrev pub layer_in : Value → Layer
layer_in v = out-Content (content_in v)

-- the table, array or scalar that a value is, or none where it is of another kind
abbrev pub table_of : Layer → Option Table
table_of (Content-F.Table t) = Some t
table_of _ = None

abbrev pub array_of : Layer → Option (List Value)
array_of (Content-F.Array vs) = Some vs
array_of _ = None

abbrev pub scalar_of : Layer → Option Scalar
scalar_of (Content-F.Scalar s) = Some s
scalar_of _ = None

abbrev pub text_of : Scalar → Option (List ℕ)
text_of (scalar.Text bytes) = Some bytes
text_of (scalar.Multiline bytes) = Some bytes
text_of _ = None

-- the text of a one-line string
abbrev pub one_line_of : Scalar → Option (List ℕ)
one_line_of (scalar.Text bytes) = Some bytes
one_line_of _ = None

abbrev pub integer_of : Scalar → Option ℤ
integer_of (scalar.Integer n) = Some n
integer_of _ = None

abbrev pub bool_of : Scalar → Option Bool
bool_of (scalar.Boolean b) = Some b
bool_of _ = None

-- the text of a date, a time or both, as it is written
abbrev pub date_of : Scalar → Option (List ℕ)
date_of (scalar.Date bytes) = Some bytes
date_of _ = None

abbrev pub table_in : Value → Option Table
table_in v = table_of (layer_in v)

abbrev pub array_in : Value → Option (List Value)
array_in v = array_of (layer_in v)

abbrev pub text_in : Value → Option (List ℕ)
text_in v = option_and_then text_of (scalar_of (layer_in v))

abbrev pub integer_in : Value → Option ℤ
integer_in v = option_and_then integer_of (scalar_of (layer_in v))

abbrev pub bool_in : Value → Option Bool
bool_in v = option_and_then bool_of (scalar_of (layer_in v))

abbrev pub date_in : Value → Option (List ℕ)
date_in v = option_and_then date_of (scalar_of (layer_in v))

-- the text of a value that is a one-line string
abbrev pub one_line_in : Value → Option (List ℕ)
one_line_in v = option_and_then one_line_of (scalar_of (layer_in v))

-- whether a one-line string is as long as its span, so that each of its bytes writes itself
abbrev pub is_verbatim : Value → Bool
is_verbatim v = option_map_or (λ text. (span_in v).start + length text == (span_in v).end) (one_line_in v) false

-- whether an entry has a name
abbrev pub has_name : List ℕ → Key × Value → Bool
has_name name e = pointwise nat_eq e.0.name name

abbrev pub entry_at : List ℕ → List (Key × Value) → Option (Key × Value)
entry_at name entries = find (has_name name) entries

-- the entries without the first of that name
unfoldable pub without : List ℕ → List (Key × Value) → List (Key × Value)
without name [] = []
without name (e ∷ es) = if has_name name e then es else (e ∷ without name es)

-- the value of the first entry with a name
abbrev pub value_at : List ℕ → List (Key × Value) → Option Value
value_at name entries = option_map (λ e. e.1) (entry_at name entries)

-- the value at a name of a table, or none where the value is no table
abbrev pub below_name : List ℕ → Value → Option Value
below_name name v = option_and_then (λ t. value_at name (entries_in t)) (table_in v)

-- a decimal index: digits, without a leading zero
abbrev pub is_decimal_digit : ℕ → Bool
is_decimal_digit byte = nat_le 48 byte && nat_le byte 57

abbrev pub digits_index : ℕ → List ℕ → Option ℕ
digits_index index [] = Some index
digits_index index (byte ∷ bytes) =
    if is_decimal_digit byte then digits_index (index * 10 + (byte - 48)) bytes else None

abbrev pub part_index : List ℕ → Option ℕ
part_index [] = None
part_index (byte ∷ bytes) = if (byte == 48) && not (length bytes == 0) then None else digits_index 0 (byte ∷ bytes)

-- the element at a decimal index
abbrev pub element_at : List ℕ → List Value → Option Value
element_at part vs = option_and_then (slice_get vs) (part_index part)

-- the value at a part of a path: of a table at a name, of an array at an index
abbrev pub below : List ℕ → Layer → Option Value
below part (Content-F.Scalar s) = None
below part (Content-F.Array vs) = element_at part vs
below part (Content-F.Table t) = value_at part (entries_in t)

abbrev pub value_below : List (List ℕ) → Value → Option Value
value_below [] v = Some v
value_below (part ∷ parts) v = option_and_then (value_below parts) (below part (layer_in v))

-- the parts of a path, which slashes divide
abbrev pub parts_of : List ℕ → List (List ℕ)
parts_of bytes = slice_split (λ b. b == 47) bytes

-- the value at a path: each part follows a `/`, and the empty path is the value itself
abbrev pub value_at_path : List ℕ → Value → Option Value
value_at_path [] v = Some v
value_at_path (byte ∷ bytes) v = if byte == 47 then value_below (parts_of bytes) v else None
