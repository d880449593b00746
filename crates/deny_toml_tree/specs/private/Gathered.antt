-- What the loops of the tree have collected, together with the rest.
use Rattle.std.specs.Prelude.{◌≡◌, ℕ, List, [], ◌∷◌, ◌++◌, unwrap_or}
use Rattle.std.specs.BTreeMap.{is_at}
use Rattle.std.specs.Cmp.Lexicographic.{slice_cmp}
use Rattle.std.specs.Map.{lookup}
use Rattle.std.specs.Ordering.{nat_cmp}
use Rattle.deny_base.specs.declared.span.Span.{Span}
use Rattle.deny_toml_grammar.specs.declared.expression.TomlExpression.{TomlExpression}
use Rattle.deny_toml_grammar.specs.declared.expression.Header.{Header}
use Rattle.deny_toml_tree.specs.declared.lines.Line.{Line}
use Rattle.deny_toml_tree.specs.declared.lines.TableMember.{TableMember}
use Rattle.deny_toml_tree.specs.Tree.{leading, header_line, header_lines, until_element, elements, groups}
use Rattle.deny_toml_tree.specs.Tree.{lines_through}

-- the lines of a document after those found, where the last header has these members so far
abbrev pub lines_with : Span → List Line → Header → List TableMember → List TomlExpression → List Line
lines_with span found h members rest = found ++ header_line span h (members ++ leading rest) ∷ header_lines span rest

-- the tables of an array after those found, where the last has these lines so far
abbrev pub elements_with : List (List Line) → List Line → List Line → List (List Line)
elements_with found table rest = found ++ (table ++ until_element rest) ∷ elements rest

-- The map has the lines of each name that was seen.
pub record IsGrouped (seen : List (List ℕ × Line)) (entries : List (List ℕ × List Line)) : Type 0 where
  pub is : entries ≡ groups seen
  pub whole : (q : List ℕ) → unwrap_or (lookup (is_at (slice_cmp nat_cmp q)) entries) [] ≡ lines_through q seen
