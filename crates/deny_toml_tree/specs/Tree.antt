-- The tree of the headers and assignments of a text.
--
-- Each header, with the assignments below it, is a line that leads along its path. Seen from a slot, a line has the
-- part of its path at the slot, the parts after it, and what it puts at their end. The lines that lead through a slot
-- determine the value there.
use Rattle.std.specs.Prelude.{ℕ, zero, suc, ◌+◌, max, Bool, true, false, List, [], ◌∷◌, map, filter, fold, length}
use Rattle.std.specs.Prelude.{nat_eq, Option, Some, None, if◌then◌else◌}
use Rattle.std.specs.List.{flat_map}
use Rattle.std.specs.Cmp.Lexicographic.{slice_cmp, pointwise}
use Rattle.std.specs.Ordering.{nat_cmp}
use Rattle.std.specs.BTreeSet.{insert_key}
use Rattle.deny_base.specs.declared.span.Span.{Span}
use Rattle.deny_toml_grammar.specs.declared.parts.Key.{Key}
use Rattle.deny_toml_tree.specs.declared.value.Value.{Value}
use Rattle.deny_toml_tree.specs.declared.value.Table.{Table}
use Rattle.deny_toml_tree.specs.declared.value.Content.{Content}
use Rattle.deny_toml_tree.specs.declared.value.Content.TheVariants as content
use Rattle.deny_toml_grammar.specs.declared.expression.Written.{Written}
use Rattle.deny_toml_grammar.specs.declared.expression.WrittenContent.{WrittenContent}
use Rattle.deny_toml_grammar.specs.declared.expression.WrittenContent.TheOpen.{WrittenContent-F, Written-F}
use Rattle.deny_toml_grammar.specs.declared.expression.WrittenContent.TheOpen.{Assignment-F}
use Rattle.deny_toml_grammar.specs.declared.expression.WrittenContent.TheFolds.{fold-Written, fold-WrittenContent}
use Rattle.deny_toml_grammar.specs.declared.expression.Header.{Header}
use Rattle.deny_toml_grammar.specs.declared.expression.Assignment.{Assignment}
use Rattle.deny_toml_grammar.specs.declared.expression.TomlExpression.{TomlExpression}
use Rattle.deny_toml_grammar.specs.declared.expression.TomlExpression.TheVariants as expression
use Rattle.deny_toml_tree.specs.declared.lines.Line.{Line}
use Rattle.deny_toml_tree.specs.declared.lines.TableMember.{TableMember}
use Rattle.deny_toml_tree.specs.declared.lines.PathEnd.{PathEnd}
use Rattle.deny_toml_tree.specs.declared.lines.PathEnd.TheVariants as path_end
use Rattle.deny_toml_grammar.specs.Expression.{span_of}
use Rattle.deny_toml_tree.specs.Value.{value_with, table_with}
use Rattle.deny_toml_grammar.specs.Expression.{assigned_path, assigned_value}

abbrev pub line_at : Span → List Key → PathEnd → Line
line_at at path path_end = record { at = at; path = path; path_end = path_end }

abbrev pub member_with : List Key → Value → TableMember
member_with path value = record { path = path; value = value }

-- A line seen from a table that it leads into: the name of its next part, and the line from there. A line that ends at
-- the table puts its keys into it, each a line of its own.
abbrev pub step : Key → List Key → PathEnd → List ℕ × Line
step key path path_end = (key.name, line_at key.span path path_end)

abbrev pub member_steps : Value → List Key → List (List ℕ × Line)
member_steps value [] = []
member_steps value (key ∷ path) = step key path (path_end.Value value) ∷ []

abbrev pub end_steps : PathEnd → List (List ℕ × Line)
end_steps (path_end.Value value) = []
end_steps (path_end.Table members) = flat_map (λ m. member_steps m.value m.path) members
end_steps (path_end.Element members) = []

abbrev pub line_steps : PathEnd → List Key → List (List ℕ × Line)
line_steps path_end [] = end_steps path_end
line_steps path_end (key ∷ path) = step key path path_end ∷ []

unfoldable pub steps : List Line → List (List ℕ × Line)
steps lines = flat_map (λ line. line_steps line.path_end line.path) lines

-- the names, each once, in byte order
unfoldable pub names : List (List ℕ × Line) → List (List ℕ)
names seen = fold (λ found s. insert_key (slice_cmp nat_cmp) found s.0) [] seen

-- the lines that lead through a name, in the order of the text
unfoldable pub lines_through : List ℕ → List (List ℕ × Line) → List Line
lines_through name seen = map (λ s. s.1) (filter (λ s. pointwise nat_eq s.0 name) seen)

-- each name, with the lines that lead through it
unfoldable pub groups : List (List ℕ × Line) → List (List ℕ × List Line)
groups seen = map (λ name. (name, lines_through name seen)) (names seen)

-- the span of the part at a slot, in the first line that leads there
abbrev pub slot_span : List Line → Span
slot_span [] = span_of 0 0
slot_span (line ∷ lines) = line.at

-- whether a line is a header `[[path]]` that ends here
abbrev pub ends_element : PathEnd → List Key → Bool
ends_element (path_end.Element members) [] = true
ends_element _ _ = false

abbrev pub is_element : Line → Bool
is_element line = ends_element line.path_end line.path

abbrev pub starts_array : List Line → Bool
starts_array [] = false
starts_array (line ∷ lines) = is_element line

-- the value that the first line assigns to this slot
abbrev pub end_value : PathEnd → List Key → Option Value
end_value (path_end.Value value) [] = Some value
end_value _ _ = None

abbrev pub assigned : List Line → Option Value
assigned [] = None
assigned (line ∷ lines) = end_value line.path_end line.path

-- the header of an element as that of a table
abbrev pub end_as_table : PathEnd → PathEnd
end_as_table (path_end.Element members) = path_end.Table members
end_as_table other = other

abbrev pub as_table : Line → Line
as_table line = line_at line.at line.path (end_as_table line.path_end)

-- the lines of each table of an array: for each header `[[path]]` that ends here, the lines from it up to the next one
unfoldable pub until_element : List Line → List Line
until_element [] = []
until_element (line ∷ lines) = if is_element line then [] else (line ∷ until_element lines)

unfoldable pub elements : List Line → List (List Line)
elements [] = []
elements (line ∷ lines) = if is_element line then ((as_table line ∷ until_element lines) ∷ elements lines) else elements
    lines

module _ (table : List Line → Table) where
  abbrev pub table_value : List Line → Value
  table_value lines = value_with (slot_span lines) (content.Table (table lines))

  abbrev pub array_value : List Line → Value
  array_value lines = value_with (slot_span lines) (content.Array (map table_value (elements lines)))

  -- The value at a slot, by the first line that leads there: the value that it assigns; an array of tables, where it is
  -- a header `[[path]]` that ends there; and else a table.
  abbrev pub value_or : Option Value → List Line → Value
  value_or (Some value) lines = value
  value_or None lines = if starts_array lines then array_value lines else table_value lines

  unfoldable pub value_of_lines : List Line → Value
  value_of_lines lines = value_or (assigned lines) lines

  abbrev pub entry_of : List ℕ × List Line → Key × Value
  entry_of group = (record { name = group.0; span = slot_span group.1 }, value_of_lines group.1)

-- the table that these lines lead into, each of which has at most n parts left
unfoldable pub table : ℕ → List Line → Table
table zero lines = table_with []
table (suc n) lines = table_with (map (entry_of (table n)) (groups (steps lines)))

-- the largest number of parts that a key has
unfoldable pub longest : List TableMember → ℕ
longest members = fold (λ most m. max most (length m.path)) 0 members

abbrev pub end_depth : PathEnd → ℕ
end_depth (path_end.Value value) = 0
end_depth (path_end.Table members) = longest members
end_depth (path_end.Element members) = longest members

unfoldable pub depth : List Line → ℕ
depth lines = fold (λ most line. max most (length line.path + end_depth line.path_end)) 0 lines

unfoldable pub table_of : List Line → Table
table_of lines = table (depth lines) lines

-- the keys of one table
abbrev pub table_of_members : Span → List TableMember → Table
table_of_members span members = table_of (line_at span [] (path_end.Table members) ∷ [])

-- A written value with its parts: its span is kept, and the keys of an inline table are a document of their own.
abbrev pub content_step : WrittenContent-F (Span → Content) TableMember Value → Span → Content
content_step (WrittenContent-F.Scalar scalar) span = content.Scalar scalar
content_step (WrittenContent-F.Array values) span = content.Array values
content_step (WrittenContent-F.InlineTable members) span = content.Table (table_of_members span members)

abbrev pub member_step : Assignment-F (Span → Content) TableMember Value → TableMember
member_step a = member_with a.path a.value

abbrev pub value_step : Written-F (Span → Content) TableMember Value → Value
value_step w = value_with w.span (w.content w.span)

abbrev pub written_value : Written → Value
written_value = fold-Written (Span → Content) TableMember Value content_step member_step value_step

abbrev pub written_in : Span → WrittenContent → Content
written_in span c = fold-WrittenContent (Span → Content) TableMember Value content_step member_step value_step c span

abbrev pub written_member : Assignment → TableMember
written_member a = member_with (assigned_path a) (written_value (assigned_value a))

-- The lines of a document: one for the keys before the first header, and one for each header, with the keys up to the
-- next.
unfoldable pub leading : List TomlExpression → List TableMember
leading [] = []
leading (expression.Assignment a ∷ es) = written_member a ∷ leading es
leading (expression.Header h ∷ es) = []

abbrev pub header_end : Bool → List TableMember → PathEnd
header_end true members = path_end.Element members
header_end false members = path_end.Table members

abbrev pub header_line : Span → Header → List TableMember → Line
header_line span h members = line_at span h.path (header_end h.is_array members)

unfoldable pub header_lines : Span → List TomlExpression → List Line
header_lines span [] = []
header_lines span (expression.Assignment a ∷ es) = header_lines span es
header_lines span (expression.Header h ∷ es) = header_line span h (leading es) ∷ header_lines span es

abbrev pub lines : Span → List TomlExpression → List Line
lines span es = line_at span [] (path_end.Table (leading es)) ∷ header_lines span es

-- the value of headers and assignments, in a text with this span
abbrev pub tree : Span → List TomlExpression → Value
tree span es = table_value table_of (lines span es)
