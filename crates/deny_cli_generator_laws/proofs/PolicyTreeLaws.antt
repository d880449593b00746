-- No keys of the policy's text clash, and this is its tree.
use Rattle.std.proofs.Common.{◌≡◌, ◌+◌, ◌∷◌, [], ℕ, List, None, ap, codes, false, length, map, refl, sym, ◌∙◌}
use Rattle.deny_base.specs.declared.span.Span.{Span}
use Rattle.deny_toml.specs.Clash.{clash, clash_after, clash_in, first_of, hold, walk}
use Rattle.deny_toml.specs.Parser.{IsTreeOf, whole}
use Rattle.deny_toml.specs.Tree.{depth, elements, groups, header_lines, leading, lines_through, longest, names, steps}
use Rattle.deny_toml.specs.Tree.{table, table_of, tree, until_element, value_of_lines, written_value}
use Rattle.deny_toml.specs.Value.{span_of, value_with}
use Rattle.deny_toml.proofs.ClashLaws.{clash_in-array, clash_in-scalar}
use Rattle.deny_toml.proofs.TreeValues.{elements_in, scalar_in, value_is}
use Rattle.deny_toml_grammar.specs.Expression.{header_with, written_with}
use Rattle.deny_toml_grammar.specs.declared.expression.TomlExpression.{TomlExpression}
use Rattle.deny_toml_grammar.specs.declared.expression.TomlExpression.TheVariants as expression
use Rattle.deny_toml_grammar.specs.declared.expression.Written.{Written}
use Rattle.deny_toml_grammar.specs.declared.expression.WrittenContent.TheVariants as written
use Rattle.deny_toml_grammar.specs.declared.parts.Scalar.TheVariants.{Text}
use Rattle.deny_cli_generator_laws.proofs.PolicyDocument.{assigned_at, deny_written, key_at, level_written}
use Rattle.deny_cli_generator_laws.proofs.PolicyDocument.{skip_written, text_of, written_by}
use Rattle.deny_cli_generator_laws.proofs.PolicyElements.{elements_text, in_quotes, text_at, texts_from}
use Rattle.deny_cli_generator_laws.proofs.PolicyValues.{array_value, bans_value, policy_tree, text_value, tree_of}
use Rattle.deny_cli_generator_laws.proofs.PolicyValues.{values_from}
use Rattle.deny_cli_generator_laws.proofs.PolicyElementsLaws.{ArePlain}
use Rattle.deny_cli_generator_laws.proofs.PolicyDocumentLaws.{document-only, text-document}

-- the lines of the policy with any values
abbrev lines_with : Written → Written → Written → List TomlExpression
lines_with level deny skip =
    expression.Header (header_with false (key_at 1 (codes "bans") ∷ []))
    ∷ assigned_at 7 (codes "multiple-versions") level
    ∷ assigned_at 34 (codes "deny") deny
    ∷ assigned_at 48 (codes "skip") skip
    ∷ []

tree_with : (span : Span) (level deny skip : Written) → tree span (lines_with level deny skip)
    ≡ tree_of span (bans_value (written_value level) (written_value deny) (written_value skip))
unfolding table table_of depth longest steps names lines_through groups elements until_element leading header_lines
    value_of_lines
tree_with span level deny skip = refl

clash_with : (level deny skip : Written) → clash_in level ≡ None → clash_in deny ≡ None → clash_in skip ≡ None
    → clash (lines_with level deny skip) ≡ None
unfolding clash_after walk hold
clash_with level deny skip one two three = rw (one, two, three) refl

-- ---- a text, and a list of texts
value-text : (at : ℕ) (text : List ℕ) → written_value (text_at at text) ≡ text_value at text
value-text at text =
    let span = span_of (at + 1) (length text) in
    sym (value_is (text_at at text))
    ∙ ap (value_with span) (sym (scalar_in span (written.Scalar (Text text)) (Text text) refl))

values-from : (at : ℕ) (texts : List (List ℕ)) → map written_value (texts_from at texts) ≡ values_from at texts
values-from at [] = refl
values-from at (text ∷ texts) =
    λ i. value-text at text i ∷ values-from (at + length (in_quotes text) + 2) texts i

value-array : (span : Span) (elements : List Written)
    → written_value (written_with span (written.Array elements)) ≡ array_value span (map written_value elements)
value-array span elements =
    sym (value_is (written_with span (written.Array elements)))
    ∙ ap (value_with span) (sym (elements_in span (written.Array elements) elements refl))

list_of_texts : (span : Span) (at : ℕ) (texts : List (List ℕ))
    → written_value (written_with span (written.Array (texts_from at texts))) ≡ array_value span (values_from at texts)
list_of_texts span at texts = value-array span (texts_from at texts) ∙ ap (array_value span) (values-from at texts)

text_alone : (at : ℕ) (text : List ℕ) → clash_in (text_at at text) ≡ None
text_alone at text = clash_in-scalar (span_of (at + 1) (length text)) (Text text)

none_of_texts : (at : ℕ) (texts : List (List ℕ)) → first_of (map clash_in (texts_from at texts)) ≡ None
none_of_texts at [] = refl
none_of_texts at (text ∷ texts) = rw (text_alone at text) (none_of_texts (at + length (in_quotes text) + 2) texts)

list_alone : (span : Span) (at : ℕ) (texts : List (List ℕ))
    → clash_in (written_with span (written.Array (texts_from at texts))) ≡ None
list_alone span at texts = clash_in-array span (texts_from at texts) ∙ none_of_texts at texts

written-tree : (span : Span) (texts : List (List ℕ)) → tree span (written_by texts) ≡ policy_tree span texts
written-tree span texts =
    let level = value-text 27 (codes "deny") in
    let deny = list_of_texts (span_of 41 6) 42 (codes "c1" ∷ []) in
    let skip = list_of_texts (span_of 55 (length (91 ∷ elements_text texts))) 56 texts in
    tree_with span level_written deny_written (skip_written texts)
    ∙ (λ i. tree_of span (bans_value (level i) (deny i) (skip i)))

no_clash : (texts : List (List ℕ)) → clash (written_by texts) ≡ None
no_clash texts =
    clash_with level_written deny_written (skip_written texts) (text_alone 27 (codes "deny"))
    (list_alone (span_of 41 6) 42 (codes "c1" ∷ []))
    (list_alone (span_of 55 (length (91 ∷ elements_text texts))) 56 texts)

pub text-tree : (texts : List (List ℕ)) → ArePlain texts
    → IsTreeOf (text_of texts) (policy_tree (whole (text_of texts)) texts)
text-tree texts plain = (
  written_by texts,
  record { written = text-document texts plain; only = document-only texts plain },
  no_clash texts,
  sym (written-tree (whole (text_of texts)) texts),
)
