-- The parts of a value, and values from their parts.
use Rattle.std.specs.Prelude.{List}
use Rattle.deny_base.specs.declared.span.Span.{Span}
use Rattle.deny_toml_grammar.specs.declared.parts.Key.{Key}
pub use Rattle.deny_toml_grammar.specs.Expression.{span_of}
use Rattle.deny_toml_tree.specs.declared.value.Value.{Value, out-Value, roll-Value}
use Rattle.deny_toml_tree.specs.declared.value.Table.{Table, out-Table, roll-Table}
use Rattle.deny_toml_tree.specs.declared.value.Content.{Content}

abbrev pub value_with : Span → Content → Value
value_with span content = roll-Value (record { span = span; content = content })

abbrev pub span_in : Value → Span
span_in v = (out-Value v).span

abbrev pub content_in : Value → Content
content_in v = (out-Value v).content

abbrev pub table_with : List (Key × Value) → Table
table_with entries = roll-Table (record { entries = entries })

abbrev pub entries_in : Table → List (Key × Value)
entries_in t = (out-Table t).entries
