-- The values of the policy's tree, as the calls of a value see them.
use Rattle.std.proofs.Common.{◌≡◌, ℕ, List, None, Some, ap, refl, rules, ◌∙◌}
use Rattle.deny_base.specs.declared.span.Span.{Span}
use Rattle.deny_toml.specs.Calls.{array_in, below, below_name, layer_in, table_in, text_in, value_at}
use Rattle.deny_toml.specs.Value.{table_with}
use Rattle.deny_toml.specs.value.Content.{the_lemmas}
use Rattle.deny_toml.specs.value.Content.TheOpen.{Content-F}
use Rattle.deny_toml.specs.value.Value.{Value}
use Rattle.deny_toml_grammar.specs.declared.parts.Key.{Key}
use Rattle.deny_toml.proofs.TreeOrderLaws.{entries_are}
use Rattle.deny_toml.proofs.TreeRows.{table_value}
use Rattle.deny_cli_generator_laws.proofs.PolicyValues.{array_value, text_value}

pub array-in : (span : Span) (values : List Value) → array_in (array_value span values) ≡ Some values
array-in span values = search (rules, the_lemmas)

pub text-in : (at : ℕ) (text : List ℕ) → text_in (text_value at text) ≡ Some text
text-in at text = search (rules, the_lemmas)

pub table-in : (span : Span) (entries : List (Key × Value))
    → table_in (table_value span entries) ≡ Some (table_with entries)
table-in span entries = search (rules, the_lemmas)

pub below-name : (name : List ℕ) (span : Span) (entries : List (Key × Value))
    → below_name name (table_value span entries) ≡ value_at name entries
below-name name span entries = rw table-in (ap (value_at name) (entries_are entries))

layer-table : (span : Span) (entries : List (Key × Value))
    → layer_in (table_value span entries) ≡ Content-F.Table (table_with entries)
layer-table span entries = search (rules, the_lemmas)

-- the value at a part of a path
pub below-part : (part : List ℕ) (span : Span) (entries : List (Key × Value))
    → below part (layer_in (table_value span entries)) ≡ value_at part entries
below-part part span entries = ap (below part) (layer-table span entries) ∙ ap (value_at part) (entries_are entries)

no-table : (at : ℕ) (text : List ℕ) → table_in (text_value at text) ≡ None
no-table at text = search (rules, the_lemmas)

-- no name is below a text
pub below-text : (name : List ℕ) (at : ℕ) (text : List ℕ) → below_name name (text_value at text) ≡ None
below-text name at text = rw (no-table at text) refl
