-- The tree of the policy.
use Rattle.std.specs.Prelude.{◌+◌, ◌∷◌, [], ℕ, List, codes, length}
use Rattle.deny_base.specs.declared.span.Span.{Span}
use Rattle.deny_toml.specs.Value.{span_of, value_with}
use Rattle.deny_toml.specs.value.Content.TheVariants as content
use Rattle.deny_toml.specs.value.Value.{Value}
use Rattle.deny_toml_grammar.specs.declared.parts.Key.{Key}
use Rattle.deny_toml_grammar.specs.declared.parts.Scalar.TheVariants.{Text}
use Rattle.deny_toml.proofs.TreeRows.{table_value}
use Rattle.deny_cli_generator_laws.proofs.PolicyDocument.{key_at}
use Rattle.deny_cli_generator_laws.proofs.PolicyElements.{elements_text, in_quotes}

abbrev pub array_value : Span → List Value → Value
array_value span values = value_with span (content.Array values)

-- a text whose quote is at an offset
abbrev pub text_value : ℕ → List ℕ → Value
text_value at text = value_with (span_of (at + 1) (length text)) (content.Scalar (Text text))

-- the elements of a list from an offset on
abbrev pub values_from : ℕ → List (List ℕ) → List Value
values_from at [] = []
values_from at (text ∷ texts) = text_value at text ∷ values_from (at + length (in_quotes text) + 2) texts

-- the keys of the table `bans`, in the order of their names
abbrev pub bans_entries : Value → Value → Value → List (Key × Value)
bans_entries level deny skip =
    (key_at 34 (codes "deny"), deny)
    ∷ (key_at 7 (codes "multiple-versions"), level)
    ∷ (key_at 48 (codes "skip"), skip)
    ∷ []

abbrev pub bans_value : Value → Value → Value → Value
bans_value level deny skip = table_value (span_of 1 4) (bans_entries level deny skip)

abbrev pub tree_of : Span → Value → Value
tree_of whole bans = table_value whole ((key_at 1 (codes "bans"), bans) ∷ [])

abbrev pub level_value : Value
level_value = text_value 27 (codes "deny")

abbrev pub deny_value : Value
deny_value = array_value (span_of 41 6) (text_value 42 (codes "c1") ∷ [])

abbrev pub skip_value : List (List ℕ) → Value
skip_value texts = array_value (span_of 55 (length (91 ∷ elements_text texts))) (values_from 56 texts)

-- the tree of the policy that skips these specs, whose text has this span
abbrev pub policy_tree : Span → List (List ℕ) → Value
policy_tree whole texts = tree_of whole (bans_value level_value deny_value (skip_value texts))
