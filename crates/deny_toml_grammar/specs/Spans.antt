-- Properties of the span of each key and value of a text.
use Rattle.std.specs.Prelude.{ℕ, Bool, ◌+◌, ◌-◌, ◌≤◌, ◌≡◌, ◌⊎◌, ◌==◌, not, true, List, [], ◌∷◌, length, take, drop}
use Rattle.std.specs.Prelude.{slice_index, All, Option, Some, None, IfSome}
use Rattle.std.specs.List.{list_all}
use Rattle.std.specs.Str.{IsCharBoundary}
use Rattle.deny_base.specs.declared.span.Span.{Span}
use Rattle.deny_toml_grammar.specs.declared.parts.Key.{Key}
use Rattle.deny_toml_grammar.specs.declared.parts.Scalar.{Scalar}
use Rattle.deny_toml_grammar.specs.declared.parts.Scalar.TheVariants as scalar
use Rattle.deny_toml_grammar.specs.declared.expression.Written.{Written}
use Rattle.deny_toml_grammar.specs.declared.expression.WrittenContent.{WrittenContent, out-WrittenContent}
use Rattle.deny_toml_grammar.specs.declared.expression.WrittenContent.TheOpen.{WrittenContent-F}
use Rattle.deny_toml_grammar.specs.declared.expression.Assignment.{Assignment}
use Rattle.deny_toml_grammar.specs.declared.expression.TomlExpression.{TomlExpression}
use Rattle.deny_toml_grammar.specs.declared.expression.TomlExpression.TheVariants as expression
use Rattle.deny_toml_grammar.specs.Expression.{written_span, written_content, assigned_path, assigned_value}
use Rattle.deny_toml_grammar.specs.Lexical.{apostrophe, backslash}
use Rattle.deny_toml_grammar.specs.Strings.{trim_newline}
use Rattle.deny_toml_grammar.specs.GrammarScalars.{IsScalar}

-- The span lies in the text, and both ends are character boundaries.
pub record IsSpan (text : List ℕ) (span : Span) : Type 0 where
  pub ordered : span.start ≤ span.end
  pub within : span.end ≤ length text
  pub starts : IsCharBoundary text span.start
  pub ends : IsCharBoundary text span.end

-- the bytes of a span
abbrev pub bytes_in : List ℕ → Span → List ℕ
bytes_in text span = take (span.end - span.start) (drop span.start text)

abbrev pub no_backslash : ℕ → Bool
no_backslash c = not (c == backslash)

-- The string with this span has no escape: no backslash, or its delimiter is an apostrophe.
abbrev pub IsWithoutEscapes : List ℕ → Span → Type 0
IsWithoutEscapes text span = (list_all no_backslash (bytes_in text span) ≡ true)
    ⊎ (slice_index text (span.start - 1) ≡ apostrophe)

-- The span of a key is one of the text, and a key without escapes is the bytes of its span.
pub record KeyOccurs (text : List ℕ) (key : Key) : Type 0 where
  pub lies : IsSpan text key.span
  pub named : IsWithoutEscapes text key.span → key.name ≡ bytes_in text key.span

-- A one-line string without escapes is the bytes of its span, and one with escapes is shorter than its span.
pub record OneLineOccurs (text : List ℕ) (span : Span) (bytes : List ℕ) : Type 0 where
  pub same : IsWithoutEscapes text span → bytes ≡ bytes_in text span
  pub without_escapes : span.start + length bytes ≡ span.end → IsWithoutEscapes text span

-- A multi-line string without escapes is the bytes of its span, except for a line end at their start. The bytes of any
-- other scalar write it.
abbrev pub ScalarOccurs : List ℕ → Span → Scalar → Type 0
ScalarOccurs text span (scalar.Text bytes) = OneLineOccurs text span bytes
ScalarOccurs text span (scalar.Multiline bytes) = IsWithoutEscapes text span
    → bytes ≡ trim_newline (bytes_in text span)
ScalarOccurs text span s = IsScalar (bytes_in text span) s

-- The span of a value is one of the text, and a scalar occurs there.
pub record Occurs (text : List ℕ) (span : Span) (found : Option Scalar) : Type 0 where
  pub lies : IsSpan text span
  pub written : IfSome found (ScalarOccurs text span)

-- one layer of a written value
abbrev pub WrittenLayer : Type 0
WrittenLayer = WrittenContent-F WrittenContent Assignment Written

abbrev pub written_layer : Written → WrittenLayer
written_layer w = out-WrittenContent (written_content w)

abbrev pub written_scalar : WrittenLayer → Option Scalar
written_scalar (WrittenContent-F.Scalar s) = Some s
written_scalar _ = None

abbrev pub WrittenOccurs : List ℕ → Written → Type 0
WrittenOccurs text w = Occurs text (written_span w) (written_scalar (written_layer w))

mutual
  -- K holds of each key and V of each value of a written value, at any depth.
  pub data AllOfWritten (K : Key → Type 0) (V : Written → Type 0) : Written → Type 0 where
    written : (w : Written) → V w → AllOfLayer K V (written_layer w) → AllOfWritten K V w

  pub data AllOfLayer (K : Key → Type 0) (V : Written → Type 0) : WrittenLayer → Type 0 where
    no_parts : (s : Scalar) → AllOfLayer K V (WrittenContent-F.Scalar s)
    array : (ws : List Written) → AllOfElements K V ws → AllOfLayer K V (WrittenContent-F.Array ws)
    inline_table : (members : List Assignment) → AllOfMembers K V members
        → AllOfLayer K V (WrittenContent-F.InlineTable members)

  pub data AllOfElements (K : Key → Type 0) (V : Written → Type 0) : List Written → Type 0 where
    no_elements : AllOfElements K V []
    elements : (w : Written) (more : List Written) → AllOfWritten K V w → AllOfElements K V more
        → AllOfElements K V (w ∷ more)

  pub data AllOfMembers (K : Key → Type 0) (V : Written → Type 0) : List Assignment → Type 0 where
    no_members : AllOfMembers K V []
    members : (a : Assignment) (more : List Assignment) → AllOfAssignment K V a → AllOfMembers K V more
        → AllOfMembers K V (a ∷ more)

  pub data AllOfAssignment (K : Key → Type 0) (V : Written → Type 0) : Assignment → Type 0 where
    assignment : (a : Assignment) → All K (assigned_path a) → AllOfWritten K V (assigned_value a)
        → AllOfAssignment K V a

abbrev pub AllOfExpression : (Key → Type 0) → (Written → Type 0) → TomlExpression → Type 0
AllOfExpression K V (expression.Header header) = All K header.path
AllOfExpression K V (expression.Assignment a) = AllOfAssignment K V a

-- K holds of each key and V of each value of the expressions, at any depth.
abbrev pub AllOf : (Key → Type 0) → (Written → Type 0) → List TomlExpression → Type 0
AllOf K V es = All (AllOfExpression K V) es

-- Each key and each value of the expressions occurs in the text, at any depth.
abbrev pub AllOccur : List ℕ → List TomlExpression → Type 0
AllOccur text es = AllOf (KeyOccurs text) (WrittenOccurs text) es
