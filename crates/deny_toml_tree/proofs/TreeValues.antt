-- The value at a slot, case by case.
use Rattle.std.proofs.Common.{◌≡◌, ◌≢◌, ℕ, zero, suc, ◌-◌, true, false, List, [], map, Some, None, arith, refl, sym, ap}
use Rattle.std.proofs.Common.{◌∙◌, rules}
use Rattle.std.proofs.lemmas.Bool.{cond-true, cond-false}
use Rattle.deny_base.specs.declared.span.Span.{Span}
use Rattle.deny_toml_tree.specs.declared.value.Value.{Value}
use Rattle.deny_toml_tree.specs.declared.value.Table.{Table}
use Rattle.deny_toml_grammar.specs.declared.parts.Scalar.{Scalar}
use Rattle.deny_toml_tree.specs.declared.value.Content.TheVariants as content
use Rattle.deny_toml_grammar.specs.declared.expression.Written.{Written}
use Rattle.deny_toml_grammar.specs.declared.expression.WrittenContent.{WrittenContent, the_lemmas}
use Rattle.deny_toml_grammar.specs.declared.expression.WrittenContent.TheVariants as written
use Rattle.deny_toml_grammar.specs.declared.expression.Assignment.{Assignment}
use Rattle.deny_toml_tree.specs.declared.lines.Line.{Line}
use Rattle.deny_toml_tree.specs.Value.{value_with, table_with}
use Rattle.deny_toml_grammar.specs.Expression.{written_span, written_content}
use Rattle.deny_toml_tree.specs.Tree.{written_value, written_in, written_member, table_of_members, assigned}
use Rattle.deny_toml_tree.specs.Tree.{starts_array}
use Rattle.deny_toml_tree.specs.Tree.{value_of_lines, array_value, table_value, value_or, entry_of, table, groups}
use Rattle.deny_toml_tree.specs.Tree.{steps}

pub table_none : (n : ℕ) (ls : List Line) → n ≡ 0 → table n ls ≡ table_with []
unfolding table
table_none zero ls none = refl
table_none (suc n) ls none = absurd (omega arith)

pub table_some : (n : ℕ) (ls : List Line) → n ≢ 0 → table n ls ≡ table_with
    (map (entry_of (table (n - 1))) (groups (steps ls)))
unfolding table
table_some zero ls some = absurd (some refl)
table_some (suc n) ls some = let less : suc n - 1 ≡ n = omega arith in rw less

module _ (below : List Line → Table) where
  pub value_assigned : (ls : List Line) (v : Value) → assigned ls ≡ Some v → v ≡ value_of_lines below ls
  unfolding value_of_lines
  value_assigned ls v is = ap (λ o. value_or below o ls) (sym is)

  pub value_array : (ls : List Line) → assigned ls ≡ None → starts_array ls ≡ true
      → array_value below ls ≡ value_of_lines below ls
  unfolding value_of_lines
  value_array ls none is = sym (ap (λ o. value_or below o ls) none ∙ cond-true _ _ _ is)

  pub value_table : (ls : List Line) → assigned ls ≡ None → starts_array ls ≡ false
      → table_value below ls ≡ value_of_lines below ls
  unfolding value_of_lines
  value_table ls none is = sym (ap (λ o. value_or below o ls) none ∙ cond-false _ _ _ is)

pub value_is : (w : Written) → value_with (written_span w) (written_in (written_span w) (written_content w)) ≡
    written_value w
value_is w = search (rules, the_lemmas)

pub scalar_in : (span : Span) (c : WrittenContent) (s : Scalar) → c ≡ written.Scalar s
    → content.Scalar s ≡ written_in span c
scalar_in span c s is = search (rules, the_lemmas)

pub elements_in : (span : Span) (c : WrittenContent) (ws : List Written) → c ≡ written.Array ws
    → content.Array (map written_value ws) ≡ written_in span c
elements_in span c ws is = search (rules, the_lemmas)

pub members_in : (span : Span) (c : WrittenContent) (ms : List Assignment) → c ≡ written.InlineTable ms
    → content.Table (table_of_members span (map written_member ms)) ≡ written_in span c
members_in span c ms is = search (rules, the_lemmas)
