-- The names of every table of a tree ascend.
use Rattle.deny_base_lists.proofs.Each.{all_append, all_filter, all_if}
use Rattle.std.proofs.Common.{◌≡◌, ℕ, zero, suc, Bool, true, false, cond, List, [], ◌∷◌, map, filter, refl, sym}
use Rattle.std.proofs.Common.{ap, subst, rules}
use Rattle.std.specs.Cmp.Lexicographic.{slice_cmp, pointwise}
use Rattle.std.specs.Bool.{nat_eq}
use Rattle.std.specs.List.{flat_map, AllByRecursion}
use Rattle.std.specs.List.Sorted.{IsStrictlySortedBy}
use Rattle.std.specs.Ordering.{nat_cmp}
use Rattle.deny_base.specs.declared.span.Span.{Span}
use Rattle.deny_toml_grammar.specs.declared.parts.Key.{Key}
use Rattle.deny_toml_tree.specs.declared.value.Value.{Value}
use Rattle.deny_toml_tree.specs.declared.value.Table.{Table}
use Rattle.deny_toml_grammar.specs.declared.parts.Scalar.{Scalar}
use Rattle.deny_toml_tree.specs.declared.value.Content.{Content, out-Content, the_lemmas}
use Rattle.deny_toml_tree.specs.declared.value.Content.TheOpen.{Content-F}
use Rattle.deny_toml_tree.specs.declared.value.Content.TheVariants as content
use Rattle.deny_toml_grammar.specs.declared.expression.Written.{Written}
use Rattle.deny_toml_grammar.specs.declared.expression.WrittenContent.{WrittenContent}
use Rattle.deny_toml_grammar.specs.declared.expression.WrittenContent.TheFolds.{ind-Written, map-WrittenContent}
use Rattle.deny_toml_grammar.specs.declared.expression.WrittenContent.TheViews.{roll-WrittenContent, roll-Written}
use Rattle.deny_toml_grammar.specs.declared.expression.WrittenContent.TheOpen.{WrittenContent-F}
use Rattle.deny_toml_grammar.specs.declared.expression.WrittenContent.TheVariants.{rolls-Scalar, rolls-Array}
use Rattle.deny_toml_grammar.specs.declared.expression.WrittenContent.TheVariants.{rolls-InlineTable}
use Rattle.deny_toml_grammar.specs.declared.expression.Assignment.{Assignment}
use Rattle.deny_toml_grammar.specs.declared.expression.TomlExpression.{TomlExpression}
use Rattle.deny_toml_grammar.specs.declared.expression.TomlExpression.TheVariants as expression
use Rattle.deny_toml_tree.specs.declared.lines.Line.{Line}
use Rattle.deny_toml_tree.specs.declared.lines.TableMember.{TableMember}
use Rattle.deny_toml_tree.specs.declared.lines.PathEnd.{PathEnd}
use Rattle.deny_toml_tree.specs.declared.lines.PathEnd.TheVariants as path_end
use Rattle.deny_toml_tree.specs.Value.{value_with, table_with, entries_in}
use Rattle.deny_toml_tree.specs.TreeOrder.{IsOrderly, value, IsOrderlyLayer, scalar, array, table, AreOrderly, none}
use Rattle.deny_toml_tree.specs.TreeOrder.{more}
use Rattle.deny_toml_tree.specs.Tree as tree
use Rattle.deny_toml_tree.specs.Calls.{layer_in}
use Rattle.deny_toml_grammar.specs.Expression.{assigned_value, written_with}
use Rattle.deny_toml_tree.proofs.TreeLaws.{names_ascend}
use Rattle.deny_toml_tree.proofs.TreeValues.{value_is, scalar_in, elements_in, members_in}

pub layer_is : (span : Span) (k : Content) → layer_in (value_with span k) ≡ out-Content k
layer_is span k = search (rules, the_lemmas)

scalar_layer : (s : Scalar) → out-Content (content.Scalar s) ≡ Content-F.Scalar s
scalar_layer s = search (rules, the_lemmas)

array_layer : (vs : List Value) → out-Content (content.Array vs) ≡ Content-F.Array vs
array_layer vs = search (rules, the_lemmas)

table_layer : (t : Table) → out-Content (content.Table t) ≡ Content-F.Table t
table_layer t = search (rules, the_lemmas)

pub entries_are : (es : List (Key × Value)) → entries_in (table_with es) ≡ es
entries_are es = search (rules, the_lemmas)

content_value : (span : Span) (k : Content) → IsOrderlyLayer (out-Content k) → IsOrderly (value_with span k)
content_value span k is = value (value_with span k) (subst IsOrderlyLayer (sym (layer_is span k)) is)

scalar_value : (span : Span) (s : Scalar) → IsOrderly (value_with span (content.Scalar s))
scalar_value span s = content_value span (content.Scalar s) (subst IsOrderlyLayer (sym (scalar_layer s)) (scalar s))

array_value : (span : Span) (vs : List Value) → AreOrderly vs → IsOrderly (value_with span (content.Array vs))
array_value span vs all = content_value span (content.Array vs)
    (subst IsOrderlyLayer (sym (array_layer vs)) (array vs all))

abbrev AreOrderlyEntries : List (Key × Value) → Type 0
AreOrderlyEntries es = IsStrictlySortedBy (slice_cmp nat_cmp) (map (λ e. e.0.name) es) × AreOrderly (map (λ e. e.1) es)

abbrev IsOrderlyTable : Table → Type 0
IsOrderlyTable t = AreOrderlyEntries (entries_in t)

table_value : (span : Span) (t : Table) → IsOrderlyTable t → IsOrderly (value_with span (content.Table t))
table_value span t is = content_value span (content.Table t)
    (subst IsOrderlyLayer (sym (table_layer t)) (table t is.0 is.1))

orderly_with : (es : List (Key × Value)) → AreOrderlyEntries es → IsOrderlyTable (table_with es)
orderly_with es is = subst AreOrderlyEntries (sym (entries_are es)) is

pub all_seconds : {X Y : Type 0} (P : Y → Type 0) (xs : List (X × Y)) → AllByRecursion (λ s. P s.1) xs
    → AllByRecursion P (map (λ s. s.1) xs)
all_seconds P [] all = tt
all_seconds P (x ∷ xs) all = (all.0, all_seconds P xs all.1)

-- the values at the ends of members are orderly
abbrev MembersAreOrderly : List TableMember → Type 0
MembersAreOrderly ms = AllByRecursion (λ m. IsOrderly m.value) ms

abbrev PutIsOrderly : PathEnd → Type 0
PutIsOrderly (path_end.Value v) = IsOrderly v
PutIsOrderly (path_end.Table ms) = MembersAreOrderly ms
PutIsOrderly (path_end.Element ms) = MembersAreOrderly ms

abbrev LinesAreOrderly : List Line → Type 0
LinesAreOrderly ls = AllByRecursion (λ l. PutIsOrderly l.path_end) ls

abbrev StepsAreOrderly : List (List ℕ × Line) → Type 0
StepsAreOrderly ss = AllByRecursion (λ s. PutIsOrderly s.1.path_end) ss

one_member : (v : Value) (path : List Key) → IsOrderly v → StepsAreOrderly (tree.member_steps v path)
one_member v [] is = tt
one_member v (key ∷ path) is = (is, tt)

member_steps_orderly : (ms : List TableMember) → MembersAreOrderly ms
    → StepsAreOrderly (flat_map (λ m. tree.member_steps m.value m.path) ms)
member_steps_orderly [] all = tt
member_steps_orderly (m ∷ ms) all = all_append (λ s. PutIsOrderly s.1.path_end) (tree.member_steps m.value m.path) _
    (one_member m.value m.path all.0) (member_steps_orderly ms all.1)

put_steps_orderly : (p : PathEnd) → PutIsOrderly p → StepsAreOrderly (tree.end_steps p)
put_steps_orderly (path_end.Value v) is = tt
put_steps_orderly (path_end.Table ms) is = member_steps_orderly ms is
put_steps_orderly (path_end.Element ms) is = tt

line_steps_orderly : (p : PathEnd) (path : List Key) → PutIsOrderly p → StepsAreOrderly (tree.line_steps p path)
line_steps_orderly p [] is = put_steps_orderly p is
line_steps_orderly p (key ∷ path) is = (is, tt)

steps_orderly : (ls : List Line) → LinesAreOrderly ls → StepsAreOrderly (tree.steps ls)
unfolding tree.steps
steps_orderly [] all = tt
steps_orderly (l ∷ ls) all = all_append (λ s. PutIsOrderly s.1.path_end) (tree.line_steps l.path_end l.path) _
    (line_steps_orderly l.path_end l.path all.0) (steps_orderly ls all.1)

through_orderly : (name : List ℕ) (ss : List (List ℕ × Line)) → StepsAreOrderly ss
    → LinesAreOrderly (tree.lines_through name ss)
unfolding tree.lines_through
through_orderly name ss all =
    all_seconds (λ l. PutIsOrderly l.path_end) (filter (λ s. pointwise nat_eq s.0 name) ss)
    (all_filter (λ s. PutIsOrderly s.1.path_end) (λ s. pointwise nat_eq s.0 name) ss all)

as_table_orderly : (p : PathEnd) → PutIsOrderly p → PutIsOrderly (tree.end_as_table p)
as_table_orderly (path_end.Value v) is = is
as_table_orderly (path_end.Table ms) is = is
as_table_orderly (path_end.Element ms) is = is

until_by : (b : Bool) (l : Line) (ls : List Line) → PutIsOrderly l.path_end → LinesAreOrderly ls
    → LinesAreOrderly (cond b [] (l ∷ ls))
until_by true l ls is all = tt
until_by false l ls is all = (is, all)

until_orderly : (ls : List Line) → LinesAreOrderly ls → LinesAreOrderly (tree.until_element ls)
unfolding tree.until_element
until_orderly [] all = tt
until_orderly (l ∷ ls) all = until_by (tree.is_element l) l (tree.until_element ls) all.0 (until_orderly ls all.1)

elements_orderly : (ls : List Line) → LinesAreOrderly ls → AllByRecursion LinesAreOrderly (tree.elements ls)
unfolding tree.elements
elements_orderly [] all = tt
elements_orderly (l ∷ ls) all =
    all_if LinesAreOrderly (tree.is_element l) (tree.as_table l ∷ tree.until_element ls) (tree.elements ls)
    (as_table_orderly l.path_end all.0, until_orderly ls all.1) (elements_orderly ls all.1)

module _ (below : List Line → Table) (orderly : (ls : List Line) → LinesAreOrderly ls → IsOrderlyTable (below ls)) where
  each_orderly : (es : List (List Line)) → AllByRecursion LinesAreOrderly es
      → AreOrderly (map (tree.table_value below) es)
  each_orderly [] all = none
  each_orderly (e ∷ es) all = more (tree.table_value below e) _
      (table_value (tree.slot_span e) (below e) (orderly e all.0)) (each_orderly es all.1)

  container_orderly : (b : Bool) (ls : List Line) → LinesAreOrderly ls
      → IsOrderly (cond b (tree.array_value below ls) (tree.table_value below ls))
  container_orderly true ls all = array_value (tree.slot_span ls) _
      (each_orderly (tree.elements ls) (elements_orderly ls all))
  container_orderly false ls all = table_value (tree.slot_span ls) (below ls) (orderly ls all)

  put_value_orderly : (p : PathEnd) (path : List Key) (ls : List Line) → PutIsOrderly p → LinesAreOrderly ls
      → IsOrderly (tree.value_or below (tree.end_value p path) ls)
  put_value_orderly (path_end.Value v) [] ls is all = is
  put_value_orderly (path_end.Value v) (key ∷ path) ls is all = container_orderly (tree.starts_array ls) ls all
  put_value_orderly (path_end.Table ms) [] ls is all = container_orderly (tree.starts_array ls) ls all
  put_value_orderly (path_end.Table ms) (key ∷ path) ls is all = container_orderly (tree.starts_array ls) ls all
  put_value_orderly (path_end.Element ms) [] ls is all = container_orderly (tree.starts_array ls) ls all
  put_value_orderly (path_end.Element ms) (key ∷ path) ls is all = container_orderly (tree.starts_array ls) ls all

  value_orderly : (ls : List Line) → LinesAreOrderly ls → IsOrderly (tree.value_of_lines below ls)
  unfolding tree.value_of_lines
  value_orderly [] all = container_orderly false [] all
  value_orderly (l ∷ ls) all = put_value_orderly l.path_end l.path (l ∷ ls) all.0 all

  entries_orderly : (ss : List (List ℕ × Line)) (ns : List (List ℕ)) → StepsAreOrderly ss
      → AreOrderly (map (λ e. e.1) (map (tree.entry_of below) (map (λ n. (n, tree.lines_through n ss)) ns)))
  entries_orderly ss [] all = none
  entries_orderly ss (n ∷ ns) all = more (tree.value_of_lines below (tree.lines_through n ss)) _
      (value_orderly _ (through_orderly n ss all)) (entries_orderly ss ns all)

  entry_names : (ss : List (List ℕ × Line)) (ns : List (List ℕ))
      → map (λ e. e.0.name) (map (tree.entry_of below) (map (λ n. (n, tree.lines_through n ss)) ns)) ≡ ns
  entry_names ss [] = refl
  entry_names ss (n ∷ ns) = ap (λ ms. n ∷ ms) (entry_names ss ns)

  entries_table : (ss : List (List ℕ × Line)) → StepsAreOrderly ss
      → IsOrderlyTable (table_with (map (tree.entry_of below) (tree.groups ss)))
  unfolding tree.groups
  entries_table ss all =
      orderly_with (map (tree.entry_of below) (map (λ n. (n, tree.lines_through n ss)) (tree.names ss))) (
        subst (IsStrictlySortedBy (slice_cmp nat_cmp)) (sym (entry_names ss (tree.names ss))) (names_ascend ss),
        entries_orderly ss (tree.names ss) all,
      )

table_orderly : (n : ℕ) (ls : List Line) → LinesAreOrderly ls → IsOrderlyTable (tree.table n ls)
unfolding IsStrictlySortedBy tree.table
table_orderly zero ls all = orderly_with [] (tt, none)
table_orderly (suc n) ls all = entries_table (tree.table n) (table_orderly n) (tree.steps ls) (steps_orderly ls all)

table_of_orderly : (ls : List Line) → LinesAreOrderly ls → IsOrderlyTable (tree.table_of ls)
unfolding tree.table_of
table_of_orderly ls all = table_orderly (tree.depth ls) ls all

-- the claim for each part of a written value
abbrev ContentIsOrderly : WrittenContent → Type 0
ContentIsOrderly c = (span : Span) → IsOrderly (value_with span (tree.written_in span c))

abbrev MemberIsOrderly : Assignment → Type 0
MemberIsOrderly a = IsOrderly (tree.written_value (assigned_value a))

abbrev WrittenIsOrderly : Written → Type 0
WrittenIsOrderly w = IsOrderly (tree.written_value w)

elements_written : (ws : List ((w : Written) × WrittenIsOrderly w))
    → AreOrderly (map tree.written_value (map (λ e. e.0) ws))
elements_written [] = none
elements_written (w ∷ ws) = more (tree.written_value w.0) _ w.1 (elements_written ws)

members_written : (ms : List ((a : Assignment) × MemberIsOrderly a))
    → MembersAreOrderly (map tree.written_member (map (λ e. e.0) ms))
members_written [] = tt
members_written (m ∷ ms) = (m.1, members_written ms)

scalar_content : (s : Scalar) → ContentIsOrderly (roll-WrittenContent (WrittenContent-F.Scalar s))
scalar_content s span = subst (λ k. IsOrderly (value_with span k)) (scalar_in span _ s (rolls-Scalar s))
    (scalar_value span s)

array_content : (ws : List Written) → AreOrderly (map tree.written_value ws)
    → ContentIsOrderly (roll-WrittenContent (WrittenContent-F.Array ws))
array_content ws all span = subst (λ k. IsOrderly (value_with span k)) (elements_in span _ ws (rolls-Array ws))
    (array_value span _ all)

table_content : (ms : List Assignment) → MembersAreOrderly (map tree.written_member ms)
    → ContentIsOrderly (roll-WrittenContent (WrittenContent-F.InlineTable ms))
table_content ms all span =
    subst (λ k. IsOrderly (value_with span k)) (members_in span _ ms (rolls-InlineTable ms))
    (table_value span _ (table_of_orderly _ (all, tt)))

-- the content of a value, with a proof of the claim for each of its parts
abbrev Proved : Type 0
Proved = WrittenContent-F ((c : WrittenContent) × ContentIsOrderly c) ((a : Assignment) × MemberIsOrderly a)
    ((w : Written) × WrittenIsOrderly w)

abbrev content_of : Proved → WrittenContent
content_of y = roll-WrittenContent (map-WrittenContent _ _ _ WrittenContent Assignment Written (λ e. e.0) (λ e. e.0)
    (λ e. e.0) y)

content_orderly : (y : Proved) → ContentIsOrderly (content_of y)
content_orderly (WrittenContent-F.Scalar s) = scalar_content s
content_orderly (WrittenContent-F.Array ws) = array_content (map (λ e. e.0) ws) (elements_written ws)
content_orderly (WrittenContent-F.InlineTable ms) = table_content (map (λ e. e.0) ms) (members_written ms)

value_orderly_at : (span : Span) (c : WrittenContent) → ContentIsOrderly c → WrittenIsOrderly (written_with span c)
value_orderly_at span c is = subst IsOrderly (value_is (written_with span c)) (is span)

-- the tree of a written value is orderly
written_orderly : (w : Written) → WrittenIsOrderly w
written_orderly =
    ind-Written ContentIsOrderly MemberIsOrderly WrittenIsOrderly
    (λ x y is. subst (λ z. ContentIsOrderly (roll-WrittenContent z)) is (content_orderly y))
    (λ x y is. subst (λ z. WrittenIsOrderly z.value) is y.value.1)
    (λ x y is. subst (λ z. WrittenIsOrderly (roll-Written z)) is (value_orderly_at y.span y.content.0 y.content.1))

leading_orderly : (es : List TomlExpression) → MembersAreOrderly (tree.leading es)
unfolding tree.leading
leading_orderly [] = tt
leading_orderly (expression.Assignment a ∷ es) = (written_orderly (assigned_value a), leading_orderly es)
leading_orderly (expression.Header h ∷ es) = tt

header_put_orderly : (b : Bool) (ms : List TableMember) → MembersAreOrderly ms → PutIsOrderly (tree.header_end b ms)
header_put_orderly true ms all = all
header_put_orderly false ms all = all

header_lines_orderly : (span : Span) (es : List TomlExpression) → LinesAreOrderly (tree.header_lines span es)
unfolding tree.header_lines
header_lines_orderly span [] = tt
header_lines_orderly span (expression.Assignment a ∷ es) = header_lines_orderly span es
header_lines_orderly span (expression.Header h ∷ es) = (
  header_put_orderly h.is_array (tree.leading es)
      (leading_orderly es),
  header_lines_orderly span es,
)

pub tree_orderly : (span : Span) (es : List TomlExpression) → IsOrderly (tree.tree span es)
tree_orderly span es = table_value span _ (table_of_orderly (tree.lines span es)
    (leading_orderly es, header_lines_orderly span es))
