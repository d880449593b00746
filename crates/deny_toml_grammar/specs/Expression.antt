-- How definitions name the parts of an expression and build one.
use Rattle.std.specs.Prelude.{ℕ, ◌+◌, Bool, List}
use Rattle.deny_base.specs.declared.span.Span.{Span}
use Rattle.deny_toml_grammar.specs.declared.parts.Key.{Key}
use Rattle.deny_toml_grammar.specs.declared.expression.Header.{Header}
use Rattle.deny_toml_grammar.specs.declared.expression.Written.{Written, out-Written, roll-Written}
use Rattle.deny_toml_grammar.specs.declared.expression.WrittenContent.{WrittenContent}
use Rattle.deny_toml_grammar.specs.declared.expression.Assignment.{Assignment, out-Assignment, roll-Assignment}

-- the span that begins at an offset and has this length
abbrev pub span_of : ℕ → ℕ → Span
span_of at len = record { start = at; end = at + len }

abbrev pub written_with : Span → WrittenContent → Written
written_with span content = roll-Written (record { span = span; content = content })

abbrev pub written_span : Written → Span
written_span w = (out-Written w).span

abbrev pub written_content : Written → WrittenContent
written_content w = (out-Written w).content

abbrev pub assignment_with : List Key → Written → Assignment
assignment_with path value = roll-Assignment (record { path = path; value = value })

abbrev pub assigned_path : Assignment → List Key
assigned_path a = (out-Assignment a).path

abbrev pub assigned_value : Assignment → Written
assigned_value a = (out-Assignment a).value

abbrev pub header_with : Bool → List Key → Header
header_with is_array path = record { path = path; is_array = is_array }

-- the largest number of parts of a key, and of arrays and inline tables nested in one another
abbrev pub depth_limit : ℕ
depth_limit = 64
