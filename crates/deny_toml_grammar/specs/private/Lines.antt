-- Readers of headers, of lines and of the whole text.
use Rattle.std.specs.Prelude.{ℕ, zero, suc, Bool, true, false, ◌||◌, ◌==◌, if◌then◌else◌, List, [], ◌∷◌, ◌++◌, length}
use Rattle.std.specs.Prelude.{drop, Option, Some, None}
use Rattle.deny_toml_grammar.specs.declared.parts.Key.{Key}
use Rattle.deny_toml_grammar.specs.declared.expression.Header.{Header}
use Rattle.deny_toml_grammar.specs.declared.expression.TomlExpression.{TomlExpression}
use Rattle.deny_toml_grammar.specs.declared.expression.TomlExpression.TheVariants as expression
use Rattle.deny_toml_grammar.specs.Lexical.{Read, hash, line_feed, carriage_return, left_bracket, right_bracket, first}
use Rattle.deny_toml_grammar.specs.Lexical.{skip_spaces}
use Rattle.deny_toml_grammar.specs.private.Lexical.{skip_blank}
use Rattle.deny_toml_grammar.specs.private.Reading.{◌>>=◌, read_map}
use Rattle.deny_toml_grammar.specs.Expression.{depth_limit, header_with}
use Rattle.deny_toml_grammar.specs.private.Keys.{key}
use Rattle.deny_toml_grammar.specs.private.Values.{assignment, value}

-- the text after this byte, where it begins with it
abbrev pub after_byte : ℕ → List ℕ → Option (List ℕ)
after_byte byte text = if first text == byte then Some (drop 1 text) else None

-- the key of a header after its opening brackets, and its first closing bracket
unfoldable pub header_path : ℕ → List ℕ → Read (List Key)
header_path total text = do
  path ← key total (skip_spaces text)
  rest ← after_byte right_bracket path.1
  Some (path.0, rest)

-- the rest of `[[path]]`
unfoldable pub array_header : ℕ → List ℕ → Read Header
array_header total text = do
  path ← header_path total text
  rest ← after_byte right_bracket path.1
  Some (header_with true path.0, rest)

-- a header after its first bracket
unfoldable pub header : ℕ → List ℕ → Read Header
header total text =
    if first text == left_bracket then array_header total (drop 1 text)
    else read_map (header_with false) (header_path total text)

-- a header, or a key and its value
unfoldable pub expression_at : ℕ → List ℕ → Read TomlExpression
expression_at total text =
    if first text == left_bracket then read_map expression.Header (header total (drop 1 text))
    else read_map expression.Assignment (assignment (value depth_limit total) total text)

-- whether the text is empty, or begins with a comment or a line end
abbrev pub ends_line : List ℕ → Bool
ends_line text = ((length text == 0 || first text == hash) || first text == line_feed) || first text == carriage_return

-- an expression with nothing after it on its line but blanks and a comment
unfoldable pub line : ℕ → List ℕ → Read TomlExpression
line total text = expression_at total text >>= (λ e. if ends_line (skip_spaces e.1) then Some e else None)

-- the expressions of the rest of the text, fewer than n, after those found
unfoldable pub lines : ℕ → ℕ → List TomlExpression → List ℕ → Option (List TomlExpression)
lines zero total found text = None
lines (suc n) total found text =
    let start = skip_blank text in
    if length start == 0 then Some found
    else line total start >>= (λ e. lines n total (found ++ e.0 ∷ []) e.1)

-- the expressions of a text
unfoldable pub expressions : List ℕ → Option (List TomlExpression)
expressions text = lines (suc (length text)) (length text) [] text
