-- The first clash of a document: the first segment of its headers and keys, in text order, that may not be at its slot.
use Rattle.std.specs.Prelude.{ℕ, ◌+◌, ◌==◌, Bool, true, false, ◌&&◌, if◌then◌else◌, not, List, [], ◌∷◌, ◌++◌, length}
use Rattle.std.specs.Prelude.{map, reverse, Option, Some, None, Result, Ok, Err}
use Rattle.std.specs.List.{filter, find, list_all, list_any, slice_get}
use Rattle.std.specs.Option.{option_or, option_map_or}
use Rattle.std.specs.Str.{bytes_eq}
use Rattle.deny_base.specs.declared.span.Span.{Span}
use Rattle.deny_toml_tree.specs.declared.clash.Role.{Role}
use Rattle.deny_toml_tree.specs.declared.clash.Role.TheVariants.{HeaderPasses, HeaderNames, ArrayNames, KeyPasses}
use Rattle.deny_toml_tree.specs.declared.clash.Role.TheVariants.{KeySets}
use Rattle.deny_toml_grammar.specs.declared.parts.Key.{Key}
use Rattle.deny_toml_grammar.specs.declared.expression.Header.{Header}
use Rattle.deny_toml_grammar.specs.declared.expression.TomlExpression.{TomlExpression}
use Rattle.deny_toml_grammar.specs.declared.expression.TomlExpression.TheVariants as expression
use Rattle.deny_toml_grammar.specs.declared.expression.Written.{Written, fold-Written}
use Rattle.deny_toml_grammar.specs.declared.expression.Assignment.{Assignment, Assignment-F}
use Rattle.deny_toml_grammar.specs.declared.expression.WrittenContent.{WrittenContent-F}
use Rattle.deny_toml_grammar.specs.Expression.{assigned_path, assigned_value}

-- A segment of a header or of a key, in a table. A table is known by the number of the segment that made it, and the
-- root by 0.
pub record Segment : Type 0 where
  pub number : ℕ
  pub table : ℕ
  pub name : List ℕ
  pub role : Role

-- the segments at a slot, which is a name in a table
abbrev pub at_slot : ℕ → List ℕ → List Segment → List Segment
at_slot table name before = filter (λ s. (s.table == table) && bytes_eq s.name name) before

abbrev pub roles_of : List Segment → List Role
roles_of there = map (λ s. s.role) there

abbrev pub is_empty : {A : Type 0} → List A → Bool
is_empty [] = true
is_empty (_ ∷ _) = false

abbrev pub passes_header : Role → Bool
passes_header HeaderPasses = true
passes_header _ = false

abbrev pub passes : Role → Bool
passes HeaderPasses = true
passes KeyPasses = true
passes _ = false

abbrev pub names_array : Role → Bool
names_array ArrayNames = true
names_array _ = false

abbrev pub sets : Role → Bool
sets KeySets = true
sets _ = false

abbrev pub array_first : List Role → Bool
array_first [] = true
array_first (role ∷ _) = names_array role

-- Whether a segment may be at a slot, by the roles of the segments there: at each slot that has none, and else
--     HeaderPasses     where no key is set: at a table, or an array of tables
--     HeaderNames      at a table that a header passes through, and none names and no key enters
--     ArrayNames       at an array that such a header made
--     KeyPasses        at a table that no header names
--     KeySets          nowhere
abbrev pub may_duplicate : Role → List Role → Bool
may_duplicate HeaderPasses there = not (list_any sets there)
may_duplicate HeaderNames there = list_all passes_header there
may_duplicate ArrayNames there = array_first there
may_duplicate KeyPasses there = list_all passes there
may_duplicate KeySets there = is_empty there

-- the segment that made the table of these segments: of an array the last that names it, and else the first
abbrev pub maker : List Segment → Option Segment
maker there = option_or (find (λ s. names_array s.role) (reverse there)) (slice_get there 0)

abbrev pub table_of : List Segment → ℕ
table_of there = option_map_or (λ s. s.number) (maker there) 0

-- the next segment
abbrev pub segment_after : List Segment → ℕ → Role → List ℕ → Segment
segment_after before table role name = record { number = length before + 1; table = table; name = name; role = role }

-- the segments up to a part of a path, and the table that it leads to; or the span of the part, where it clashes
unfoldable pub hold : List Segment → ℕ → Role → Key → Result (List Segment × ℕ) Span
hold before table role key =
    let there = at_slot table key.name before in
    let segment = segment_after before table role key.name in
    if may_duplicate role (roles_of there) then Ok (before ++ segment ∷ [], table_of (there ++ segment ∷ [])) else Err
    key.span

-- the rest after segments that do not clash, or the value for the span of their clash
abbrev pub follow : {A : Type 0} → Result (List Segment × ℕ) Span → (Span → A) → (List Segment → ℕ → A) → A
follow (Ok p) clashing following = following p.0 p.1
follow (Err span) clashing following = clashing span

-- the segments up to the end of a path, of which the last has a role of its own, and the table that it leads to
unfoldable pub walk : List Segment → ℕ → Role → Role → List Key → Result (List Segment × ℕ) Span
walk before table passing last [] = Ok (before, table)
walk before table passing last (key ∷ path) =
    follow (hold before table (if is_empty path then last else passing) key) Err
    (λ now entered. walk now entered passing last path)

abbrev pub walk_header : List Segment → Header → Result (List Segment × ℕ) Span
walk_header before header = walk before 0 HeaderPasses (if header.is_array then ArrayNames else HeaderNames) header.path

abbrev pub walk_key : List Segment → ℕ → List Key → Result (List Segment × ℕ) Span
walk_key before table path = walk before table KeyPasses KeySets path

-- a header, or a key with the clash in its value
pub data ClashLine : Type 0 where
  header_line : Header → ClashLine
  key_line : List Key → Option Span → ClashLine

-- the first clash of lines after these segments, where keys belong to a table
unfoldable pub clash_after : List Segment → ℕ → List ClashLine → Option Span
clash_after before table [] = None
clash_after before table (header_line h ∷ lines) = follow (walk_header before h) Some
    (λ now entered. clash_after now entered lines)
clash_after before table (key_line path inner ∷ lines) = follow (walk_key before table path) Some
    (λ now _. option_or inner (clash_after now table lines))

-- the first span of a list that has one
abbrev pub first_of : List (Option Span) → Option Span
first_of [] = None
first_of (found ∷ others) = option_or found (first_of others)

-- the first clash in the content of a value: in an element of an array, or in a key of an inline table, which meets the
-- other keys of that table alone
abbrev pub clash_of_content : WrittenContent-F (Option Span) ClashLine (Option Span) → Option Span
clash_of_content (WrittenContent-F.Scalar scalar) = None
clash_of_content (WrittenContent-F.Array elements) = first_of elements
clash_of_content (WrittenContent-F.InlineTable members) = clash_after [] 0 members

abbrev pub line_of_assignment : Assignment-F (Option Span) ClashLine (Option Span) → ClashLine
line_of_assignment a = key_line a.path a.value

-- the first clash in a written value
abbrev pub clash_in : Written → Option Span
clash_in = fold-Written (Option Span) ClashLine (Option Span) clash_of_content line_of_assignment (λ w. w.content)

abbrev pub member_line : Assignment → ClashLine
member_line a = key_line (assigned_path a) (clash_in (assigned_value a))

abbrev pub line_of : TomlExpression → ClashLine
line_of (expression.Header h) = header_line h
line_of (expression.Assignment a) = member_line a

-- the span of the first segment that clashes
abbrev pub clash : List TomlExpression → Option Span
clash expressions = clash_after [] 0 (map line_of expressions)
