-- The text of the policy for any entries of `skip`, and the headers and assignments that it writes.
use Rattle.std.specs.Prelude.{◌++◌, ◌∷◌, [], ℕ, List, codes, false, length}
use Rattle.deny_toml_grammar.specs.declared.expression.TomlExpression.{TomlExpression}
use Rattle.deny_toml_grammar.specs.declared.expression.TomlExpression.TheVariants as expression
use Rattle.deny_toml_grammar.specs.declared.expression.Written.{Written}
use Rattle.deny_toml_grammar.specs.declared.expression.WrittenContent.TheVariants as written
use Rattle.deny_toml_grammar.specs.declared.parts.Key.{Key}
use Rattle.deny_toml_grammar.specs.Expression.{assignment_with, header_with, span_of, written_with}
use Rattle.deny_cli_generator_laws.proofs.PolicyElements.{elements_text, text_at, texts_from}

-- the text of the policy that skips these specs
abbrev pub text_of : List (List ℕ) → List ℕ
text_of texts =
    codes "[bans]\nmultiple-versions = \"deny\"\ndeny = [\"c1\"]\nskip = [" ++ (elements_text texts ++ codes "\n")

abbrev pub key_at : ℕ → List ℕ → Key
key_at at name = record { name = name; span = span_of at (length name) }

abbrev pub assigned_at : ℕ → List ℕ → Written → TomlExpression
assigned_at at name value = expression.Assignment (assignment_with (key_at at name ∷ []) value)

abbrev pub level_written : Written
level_written = text_at 27 (codes "deny")

abbrev pub deny_written : Written
deny_written = written_with (span_of 41 6) (written.Array (text_at 42 (codes "c1") ∷ []))

abbrev pub skip_written : List (List ℕ) → Written
skip_written texts = written_with (span_of 55 (length (91 ∷ elements_text texts))) (written.Array (texts_from 56 texts))

-- the headers and assignments that the text writes
abbrev pub written_by : List (List ℕ) → List TomlExpression
written_by texts =
    expression.Header (header_with false (key_at 1 (codes "bans") ∷ []))
    ∷ assigned_at 7 (codes "multiple-versions") level_written
    ∷ assigned_at 34 (codes "deny") deny_written
    ∷ assigned_at 48 (codes "skip") (skip_written texts)
    ∷ []
