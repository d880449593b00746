-- The tree of a text of TOML, or the cause of its fault.
use Rattle.std.specs.Prelude.{ℕ, ◌≡◌, List, length, None, Some}
use Rattle.deny_base_lists.specs.Reader.{Fails}
use Rattle.deny_base.specs.declared.span.Span.{Span}
use Rattle.deny_toml_tree.specs.declared.value.Value.{Value}
use Rattle.deny_toml.specs.declared.error.TomlKind.{TomlKind}
use Rattle.deny_toml.specs.declared.error.TomlKind.TheVariants as kind
use Rattle.deny_toml.specs.declared.error.TomlError.{TomlError}
use Rattle.deny_toml.specs.declared.error.TomlError.TheVariants as error
use Rattle.deny_toml_grammar.specs.declared.expression.TomlExpression.{TomlExpression}
use Rattle.deny_toml_grammar.specs.Grammar.{IsDocument}
use Rattle.deny_toml_tree.specs.Spans.{IsSpan}
use Rattle.deny_toml_tree.specs.Clash.{clash}
use Rattle.deny_toml_tree.specs.Tree.{tree}

-- The text has these headers and assignments, and no others.
pub record IsDocumentOf (text : List ℕ) (es : List TomlExpression) : Type 0 where
  pub written : IsDocument text es
  pub only : (others : List TomlExpression) → IsDocument text others → others ≡ es

-- the span of the whole text
abbrev pub whole : List ℕ → Span
whole text = record { start = 0; end = length text }

-- the document of the text does not clash, and this is its tree
abbrev pub IsTreeOf : List ℕ → Value → Type 0
IsTreeOf text value = (es : List TomlExpression) × IsDocumentOf text es × (clash es ≡ None) ×
    (value ≡ tree (whole text) es)

-- the first key that clashes in the document of the text has this span
abbrev pub ClashesAt : List ℕ → Span → Type 0
ClashesAt text span = (es : List TomlExpression) × IsDocumentOf text es × (clash es ≡ Some span)

-- the text is not in the grammar
abbrev pub IsOutside : List ℕ → Type 0
IsOutside text = (es : List TomlExpression) → IsDocument text es → ⊥

abbrev pub IsFaultOf : List ℕ → TomlKind → Span → Type 0
IsFaultOf text kind.Grammar span = IsOutside text
IsFaultOf text kind.Clash span = ClashesAt text span

-- an error is a fault of which Is holds, or memory ran out
abbrev pub IsFaultWith : (TomlKind → Span → Type 0) → TomlError → Type 0
IsFaultWith Is (error.Fault kind span) = Is kind span
IsFaultWith Is error.Memory = ⊥

-- The cause of an error: why a text has no tree. Running out of memory says nothing of the text.
abbrev pub IsCauseOf : List ℕ → TomlError → Type 0
IsCauseOf text e = Fails error.Memory (IsFaultWith (IsFaultOf text)) e

-- the span of a fault is one of the text
abbrev pub LiesIn : List ℕ → TomlError → Type 0
LiesIn text e = Fails error.Memory (IsFaultWith (λ _. IsSpan text)) e
