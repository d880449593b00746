-- Trees of documents, from the rules and the examples of the TOML specification. The values of the keys are arbitrary.
use Rattle.std.proofs.Common.{◌≡◌, ℕ, true, false, List, [], ◌∷◌, length, codes, refl, ap, sym, ◌∙◌}
use Rattle.deny_base.specs.declared.span.Span.{Span}
use Rattle.deny_toml_grammar.specs.declared.parts.Key.{Key}
use Rattle.deny_toml_tree.specs.declared.value.Value.{Value}
use Rattle.deny_toml_tree.specs.declared.value.Content.TheVariants as content
use Rattle.deny_toml_grammar.specs.declared.expression.Written.{Written}
use Rattle.deny_toml_grammar.specs.declared.expression.WrittenContent.TheVariants as written
use Rattle.deny_toml_grammar.specs.declared.expression.TomlExpression.{TomlExpression}
use Rattle.deny_toml_grammar.specs.declared.expression.TomlExpression.TheVariants as expression
use Rattle.deny_toml_grammar.specs.Expression.{span_of}
use Rattle.deny_toml_tree.specs.Value.{value_with, table_with}
use Rattle.deny_toml_grammar.specs.Expression.{written_with, assignment_with}
use Rattle.deny_toml_tree.specs.Tree.{tree, table, table_of, depth, longest, steps, names, lines_through, groups}
use Rattle.deny_toml_tree.specs.Tree.{elements}
use Rattle.deny_toml_tree.specs.Tree.{until_element, leading, header_lines, value_of_lines, written_value}
use Rattle.deny_toml_tree.proofs.TreeValues.{value_is, members_in, elements_in}

abbrev pub key : ℕ → List ℕ → Key
key at name = record { name = name; span = span_of at (length name) }

abbrev pub assigned : List Key → Written → TomlExpression
assigned path value = expression.Assignment (assignment_with path value)

abbrev pub header : List Key → TomlExpression
header path = expression.Header (record { path = path; is_array = false })

abbrev pub element : List Key → TomlExpression
element path = expression.Header (record { path = path; is_array = true })

abbrev pub table_at : Key → List (Key × Value) → Key × Value
table_at k entries = (k, value_with k.span (content.Table (table_with entries)))

abbrev pub table_value : Span → List (Key × Value) → Value
table_value span entries = value_with span (content.Table (table_with entries))

-- `b = 1`, `a = 2`: the names are in byte order
pub order_of_names : (text : Span) (one two : Written)
    → tree text (assigned (key 0 (codes "b") ∷ []) one ∷ assigned (key 6 (codes "a") ∷ []) two ∷ [])
    ≡ table_value text ((key 6 (codes "a"), written_value two) ∷ (key 0 (codes "b"), written_value one) ∷ [])
unfolding table table_of depth longest steps names lines_through groups elements until_element leading header_lines
    value_of_lines
order_of_names text one two = refl

-- an empty text, and `[a]` alone
pub nothing : (text : Span) → tree text [] ≡ table_value text []
unfolding table table_of depth longest steps names lines_through groups elements until_element leading header_lines
    value_of_lines
nothing text = refl

pub empty_table : (text : Span) → tree text (header (key 1 (codes "a") ∷ []) ∷ []) ≡ table_value text
    (table_at (key 1 (codes "a")) [] ∷ [])
unfolding table table_of depth longest steps names lines_through groups elements until_element leading header_lines
    value_of_lines
empty_table text = refl

-- `[a.b]`, `x = 1`, `[c]`, `[a]`, `y = 2`: a table has the span of its first part, and its lines need not be adjacent
pub nested_headers : (text : Span) (one two : Written)
    → tree text (header (key 1 (codes "a") ∷ key 3 (codes "b") ∷ []) ∷ assigned (key 6 (codes "x") ∷ []) one ∷ header
    (key 13 (codes "c") ∷ [])
    ∷ header (key 17 (codes "a") ∷ []) ∷ assigned (key 20 (codes "y") ∷ []) two ∷ [])
    ≡ table_value text
    (table_at (key 1 (codes "a")) (table_at (key 3 (codes "b")) ((key 6 (codes "x"), written_value one) ∷ []) ∷
    (key 20 (codes "y"), written_value two) ∷ [])
    ∷ table_at (key 13 (codes "c")) [] ∷ [])
unfolding table table_of depth longest steps names lines_through groups elements until_element leading header_lines
    value_of_lines
nested_headers text one two = refl

-- `a.y = 1`, `b = 2`, `a.x = 3`: dotted keys make one table, with the span of the first
pub dotted_keys : (text : Span) (one two three : Written)
    → tree text (assigned (key 0 (codes "a") ∷ key 2 (codes "y") ∷ []) one ∷ assigned
    (key 8 (codes "b") ∷ []) two ∷ assigned
    (key 14 (codes "a") ∷ key 16 (codes "x") ∷ []) three ∷ [])
    ≡ table_value text
    (table_at (key 0 (codes "a")) ((key 16 (codes "x"), written_value three) ∷ (key 2 (codes "y"), written_value one) ∷
    [])
    ∷ (key 8 (codes "b"), written_value two) ∷ [])
unfolding table table_of depth longest steps names lines_through groups elements until_element leading header_lines
    value_of_lines
dotted_keys text one two three = refl

-- Arrays of tables in one another, with a table between: each element has the span of the last part of its own header,
-- and the array that of the first.
pub fruits : (text : Span) (apple red round delicious smith banana plantain : Written)
    → tree text (element (key 2 (codes "fruits") ∷ []) ∷ assigned (key 11 (codes "name") ∷ []) apple
    ∷ header (key 28 (codes "fruits") ∷ key 35 (codes "physical") ∷ []) ∷ assigned
    (key 45 (codes "color") ∷ []) red ∷ assigned
    (key 59 (codes "shape") ∷ []) round
    ∷ element (key 77 (codes "fruits") ∷ key 84 (codes "varieties") ∷ []) ∷ assigned
    (key 96 (codes "name") ∷ []) delicious
    ∷ element (key 121 (codes "fruits") ∷ key 128 (codes "varieties") ∷ []) ∷ assigned
    (key 140 (codes "name") ∷ []) smith
    ∷ element (key 164 (codes "fruits") ∷ []) ∷ assigned (key 173 (codes "name") ∷ []) banana
    ∷ element (key 192 (codes "fruits") ∷ key 199 (codes "varieties") ∷ []) ∷ assigned
    (key 211 (codes "name") ∷ []) plantain
    ∷ [])
    ≡ table_value text ((
      key 2 (codes "fruits"),
      value_with (span_of 2 6) (content.Array
          (table_value (span_of 2 6) ((key 11 (codes "name"), written_value apple)
          ∷ table_at (key 35 (codes "physical")) ((key 45 (codes "color"), written_value red) ∷
          (key 59 (codes "shape"), written_value round) ∷ [])
          ∷ (
            key 84 (codes "varieties"),
            value_with (span_of 84 9) (content.Array
                (table_value (span_of 84 9) ((key 96 (codes "name"), written_value delicious) ∷ [])
                ∷ table_value (span_of 128 9) ((key 140 (codes "name"), written_value smith) ∷ []) ∷ [])),
          ) ∷ [])
          ∷ table_value (span_of 164 6) ((key 173 (codes "name"), written_value banana)
          ∷ (
            key 199 (codes "varieties"),
            value_with (span_of 199 9) (content.Array
                (table_value (span_of 199 9) ((key 211 (codes "name"), written_value plantain) ∷ []) ∷ [])),
          ) ∷ []) ∷ [])),
    ) ∷ [])
unfolding table table_of depth longest steps names lines_through groups elements until_element leading header_lines
    value_of_lines
fruits text apple red round delicious smith banana plantain = refl

-- `{ a.y = 1, b = 2, a.x = 3 }`: an inline table is a document of its own, and keeps its span
pub inline_table : (this_span : Span) (one two three : Written)
    → written_value (written_with this_span (written.InlineTable
    (assignment_with (key 2 (codes "a") ∷ key 4 (codes "y") ∷ []) one ∷ assignment_with (key 11 (codes "b") ∷ []) two ∷
    assignment_with (key 18 (codes "a") ∷ key 20 (codes "x") ∷ []) three ∷ [])))
    ≡ table_value this_span
    (table_at (key 2 (codes "a")) ((key 20 (codes "x"), written_value three) ∷ (key 4 (codes "y"), written_value one) ∷
    [])
    ∷ (key 11 (codes "b"), written_value two) ∷ [])
unfolding table table_of depth longest steps names lines_through groups elements until_element leading header_lines
    value_of_lines
inline_table this_span one two three =
    let ms = assignment_with (key 2 (codes "a") ∷ key 4 (codes "y") ∷ []) one ∷ assignment_with
    (key 11 (codes "b") ∷ []) two ∷ assignment_with (key 18 (codes "a") ∷ key 20 (codes "x") ∷ []) three ∷ [] in
    sym (value_is (written_with this_span (written.InlineTable ms)))
    ∙ ap (value_with this_span) (sym (members_in this_span (written.InlineTable ms) ms refl))

-- `[1, 2]`: an array has its elements in order
pub array : (this_span : Span) (one two : Written)
    → written_value (written_with this_span (written.Array (one ∷ two ∷ []))) ≡ value_with this_span
    (content.Array (written_value one ∷ written_value two ∷ []))
array this_span one two =
    sym (value_is (written_with this_span (written.Array (one ∷ two ∷ []))))
    ∙ ap (value_with this_span) (sym (elements_in this_span (written.Array (one ∷ two ∷ [])) (one ∷ two ∷ []) refl))
