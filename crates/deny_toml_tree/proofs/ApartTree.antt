-- An offset is among the starts of a tree no more often than in the lines from which it is made.
use Rattle.std.proofs.Common.{◌≡◌, ℕ, zero, suc, ◌+◌, ◌≤◌, Bool, true, false, cond, List, [], ◌∷◌, ◌++◌, map, refl, sym}
use Rattle.std.proofs.Common.{ap, subst, ◌∙◌, inl, inr, arith}
use Rattle.std.proofs.lemmas.Bool.{cases_Bool}
use Rattle.std.proofs.lemmas.Cmp.{tied_itself}
use Rattle.std.specs.Prelude.{nat_eq}
use Rattle.std.specs.List.{AllByRecursion, flat_map}
use Rattle.std.specs.List.Sorted.{IsStrictlySortedBy}
use Rattle.std.specs.Ordering.{nat_cmp}
use Rattle.std.specs.declared.cmp.Ordering.TheVariants.{Less, Equal}
use Rattle.std.specs.Cmp.Lexicographic.{slice_cmp, pointwise, same_text, nat_list_cmp_total}
use Rattle.deny_base.specs.declared.span.Span.{Span}
use Rattle.deny_toml_grammar.specs.declared.parts.Key.{Key}
use Rattle.deny_toml_tree.specs.declared.value.Value.{Value}
use Rattle.deny_toml_tree.specs.declared.value.Table.{Table}
use Rattle.deny_toml_tree.specs.declared.value.Content.TheVariants as content
use Rattle.deny_toml_grammar.specs.declared.expression.TomlExpression.{TomlExpression}
use Rattle.deny_toml_grammar.specs.declared.expression.TomlExpression.TheVariants as expression
use Rattle.deny_toml_tree.specs.declared.lines.Line.{Line}
use Rattle.deny_toml_tree.specs.declared.lines.TableMember.{TableMember}
use Rattle.deny_toml_tree.specs.declared.lines.PathEnd.{PathEnd}
use Rattle.deny_toml_tree.specs.declared.lines.PathEnd.TheVariants as path_end
use Rattle.deny_toml_tree.specs.Value.{value_with, table_with, entries_in}
use Rattle.deny_toml_grammar.specs.Expression.{assigned_value}
use Rattle.deny_toml_tree.specs.Tree as tree
use Rattle.deny_toml_tree.specs.Apart.{starts_in}
use Rattle.deny_toml_tree.proofs.ApartLaws.{times, times-append, starts_of_array, starts_of_table, starts_of_entries}
use Rattle.deny_toml_tree.proofs.TreeLaws.{names_ascend}
use Rattle.deny_toml_tree.proofs.TreeOrderLaws.{entries_are}

equal_less : Equal ≡ Less → ⊥
equal_less e = cc

module _ (x : ℕ) where
  -- the weight: how often the offset is among the starts of a value, of several values, and of the ends of lines
  abbrev pub weight : Value → ℕ
  weight v = times x (starts_in v)

  abbrev pub values_weight : List Value → ℕ
  values_weight [] = 0
  values_weight (v ∷ vs) = weight v + values_weight vs

  abbrev entries_weight : List (Key × Value) → ℕ
  entries_weight [] = 0
  entries_weight (e ∷ es) = weight e.1 + entries_weight es

  abbrev pub members_weight : List TableMember → ℕ
  members_weight [] = 0
  members_weight (m ∷ ms) = weight m.value + members_weight ms

  abbrev end_weight : PathEnd → ℕ
  end_weight (path_end.Value v) = weight v
  end_weight (path_end.Table ms) = members_weight ms
  end_weight (path_end.Element ms) = members_weight ms

  abbrev line_weight : Line → ℕ
  line_weight l = end_weight l.path_end

  abbrev lines_weight : List Line → ℕ
  lines_weight [] = 0
  lines_weight (l ∷ ls) = line_weight l + lines_weight ls

  abbrev parts_weight : List (List Line) → ℕ
  parts_weight [] = 0
  parts_weight (ls ∷ parts) = lines_weight ls + parts_weight parts

  abbrev steps_weight : List (List ℕ × Line) → ℕ
  steps_weight [] = 0
  steps_weight (s ∷ ss) = line_weight s.1 + steps_weight ss

  abbrev table_weight : Table → ℕ
  table_weight t = entries_weight (entries_in t)

  values_times : (vs : List Value) → times x (flat_map starts_in vs) ≡ values_weight vs
  values_times [] = refl
  values_times (v ∷ vs) = times-append x (starts_in v) (flat_map starts_in vs)
      ∙ ap (λ n. weight v + n) (values_times vs)

  entries_times : (es : List (Key × Value)) → times x (starts_of_entries es) ≡ entries_weight es
  entries_times [] = refl
  entries_times (e ∷ es) = times-append x (starts_in e.1) (starts_of_entries es)
      ∙ ap (λ n. weight e.1 + n) (entries_times es)

  pub array_weight : (span : Span) (vs : List Value) → weight (value_with span (content.Array vs)) ≡ values_weight vs
  array_weight span vs = ap (times x) (starts_of_array span vs) ∙ values_times vs

  pub table_value_weight : (span : Span) (t : Table) → weight (value_with span (content.Table t)) ≡ table_weight t
  table_value_weight span t = ap (times x) (starts_of_table span t) ∙ entries_times (entries_in t)

  steps_weight-append : (ss ts : List (List ℕ × Line)) → steps_weight (ss ++ ts) ≡ steps_weight ss + steps_weight ts
  steps_weight-append [] ts = omega arith
  steps_weight-append (s ∷ ss) ts = omega (arith, steps_weight-append ss ts)

  -- ---- the lines of an array of tables

  as_table_weight : (p : PathEnd) → end_weight (tree.end_as_table p) ≡ end_weight p
  as_table_weight (path_end.Value v) = refl
  as_table_weight (path_end.Table ms) = refl
  as_table_weight (path_end.Element ms) = refl

  -- each line belongs to one element at most
  elements_weight : (ls : List Line) → parts_weight (tree.elements ls) + lines_weight (tree.until_element ls) ≤
      lines_weight ls
  unfolding tree.elements tree.until_element
  elements_weight [] = omega arith
  elements_weight (l ∷ ls) =
      let more = elements_weight ls in
      let same = as_table_weight l.path_end in
      elim (cases_Bool (tree.is_element l)) [
        | inl is ↦ rw is (omega arith)
        | inr other ↦ rw other (omega arith)
      ]

  -- ---- the lines that lead through names

  -- the weight of a step in the lists of lines through the names
  abbrev led_weight : List ℕ × Line → List (List ℕ) → ℕ
  led_weight s [] = 0
  led_weight s (n ∷ ns) = cond (pointwise nat_eq s.0 n) (line_weight s.1) 0 + led_weight s ns

  abbrev through_weight : List (List ℕ) → List (List ℕ × Line) → ℕ
  through_weight [] ss = 0
  through_weight (n ∷ ns) ss = lines_weight (tree.lines_through n ss) + through_weight ns ss

  through_none : (ns : List (List ℕ)) → through_weight ns [] ≡ 0
  unfolding tree.lines_through
  through_none [] = refl
  through_none (n ∷ ns) = omega (arith, through_none ns)

  through_step : (n : List ℕ) (s : List ℕ × Line) (ss : List (List ℕ × Line))
      → lines_weight (tree.lines_through n (s ∷ ss)) ≡ cond (pointwise nat_eq s.0 n) (line_weight s.1) 0 + lines_weight
      (tree.lines_through n ss)
  unfolding tree.lines_through
  through_step n s ss = elim (cases_Bool (pointwise nat_eq s.0 n))
      [ inl same ↦ rw same refl | inr other ↦ rw other (omega arith) ]

  through_more : (ns : List (List ℕ)) (s : List ℕ × Line) (ss : List (List ℕ × Line))
      → through_weight ns (s ∷ ss) ≡ led_weight s ns + through_weight ns ss
  through_more [] s ss = refl
  through_more (n ∷ ns) s ss = omega (arith, through_step n s ss, through_more ns s ss)

  -- a name that differs from all of the names leads through none of their lists
  led_none : (s : List ℕ × Line) (n : List ℕ) (ns : List (List ℕ)) → pointwise nat_eq s.0 n ≡ true
      → AllByRecursion (λ m. slice_cmp nat_cmp n m ≡ Less) ns → led_weight s ns ≡ 0
  led_none s n [] same below = refl
  led_none s n (m ∷ ns) same below =
      elim (cases_Bool (pointwise nat_eq s.0 m)) [
        | inl too ↦ absurd (not_below (sym (same_text s.0 n (sym same)) ∙ same_text s.0 m (sym too)) below.0)
        | inr other ↦ let more = led_none s n ns same below.1 in rw other (omega arith)
      ]
    where
      not_below : {n m : List ℕ} → n ≡ m → slice_cmp nat_cmp n m ≡ Less → ⊥
      not_below {n} {m} e less =
          let tied = tied_itself nat_list_cmp_total n in
          let below_itself : slice_cmp nat_cmp n n ≡ Less = subst (λ k. slice_cmp nat_cmp n k ≡ Less) (sym e) less in
          equal_less (sym tied ∙ below_itself)

  led_once : (s : List ℕ × Line) (ns : List (List ℕ)) → IsStrictlySortedBy (slice_cmp nat_cmp) ns
      → led_weight s ns ≤ line_weight s.1
  unfolding IsStrictlySortedBy
  led_once s [] ascend = omega arith
  led_once s (n ∷ ns) ascend =
      elim (cases_Bool (pointwise nat_eq s.0 n)) [
        | inl same ↦ let none = led_none s n ns same ascend.0 in rw same (omega arith)
        | inr other ↦ let more = led_once s ns ascend.1 in rw other (omega arith)
      ]

  names_weight : (ns : List (List ℕ)) (ss : List (List ℕ × Line)) → IsStrictlySortedBy (slice_cmp nat_cmp) ns
      → through_weight ns ss ≤ steps_weight ss
  names_weight ns [] ascend = omega (arith, through_none ns)
  names_weight ns (s ∷ ss) ascend = omega (arith, through_more ns s ss, led_once s ns ascend, names_weight ns ss ascend)

  -- ---- the steps of lines

  member_steps_weight : (v : Value) (path : List Key) → steps_weight (tree.member_steps v path) ≤ weight v
  member_steps_weight v [] = omega arith
  member_steps_weight v (key ∷ path) = omega arith

  members_steps_weight : (ms : List TableMember) → steps_weight (flat_map (λ m. tree.member_steps m.value m.path) ms) ≤
      members_weight ms
  members_steps_weight [] = omega arith
  members_steps_weight (m ∷ ms) =
      omega (
        arith,
        steps_weight-append (tree.member_steps m.value m.path)
            (flat_map (λ n. tree.member_steps n.value n.path) ms),
        member_steps_weight m.value m.path,
        members_steps_weight ms,
      )

  line_steps_weight : (p : PathEnd) (path : List Key) → steps_weight (tree.line_steps p path) ≤ end_weight p
  line_steps_weight p (key ∷ path) = omega arith
  line_steps_weight (path_end.Value v) [] = omega arith
  line_steps_weight (path_end.Table ms) [] = members_steps_weight ms
  line_steps_weight (path_end.Element ms) [] = omega arith

  all_steps_weight : (ls : List Line) → steps_weight (tree.steps ls) ≤ lines_weight ls
  unfolding tree.steps
  all_steps_weight [] = omega arith
  all_steps_weight (l ∷ ls) =
      omega (
        arith,
        steps_weight-append (tree.line_steps l.path_end l.path)
            (flat_map (λ m. tree.line_steps m.path_end m.path) ls),
        line_steps_weight l.path_end l.path,
        all_steps_weight
            ls,
      )

  -- ---- tables

  -- tables weigh no more than the lines that they are made of
  abbrev IsNoMore : (List Line → Table) → Type 0
  IsNoMore make = (ls : List Line) → table_weight (make ls) ≤ lines_weight ls

  module _ (make : List Line → Table) (no_more : IsNoMore make) where
    table_no_more : (ls : List Line) → weight (tree.table_value make ls) ≤ lines_weight ls
    table_no_more ls = omega (arith, table_value_weight (tree.slot_span ls) (make ls), no_more ls)

    each_no_more : (parts : List (List Line)) → values_weight (map (tree.table_value make) parts) ≤ parts_weight parts
    each_no_more [] = omega arith
    each_no_more (ls ∷ parts) = omega (arith, table_no_more ls, each_no_more parts)

    array_no_more : (ls : List Line) → weight (tree.array_value make ls) ≤ lines_weight ls
    array_no_more ls =
        omega (
          arith,
          array_weight (tree.slot_span ls) (map (tree.table_value make) (tree.elements ls)),
          each_no_more
              (tree.elements ls),
          elements_weight ls,
        )

    container_no_more : (b : Bool) (ls : List Line) → weight
        (cond b (tree.array_value make ls) (tree.table_value make ls)) ≤ lines_weight ls
    container_no_more true ls = array_no_more ls
    container_no_more false ls = table_no_more ls

    first_no_more : (p : PathEnd) (path : List Key) (ls : List Line) → end_weight p ≤ lines_weight ls
        → weight (tree.value_or make (tree.end_value p path) ls) ≤ lines_weight ls
    first_no_more (path_end.Value v) [] ls le = le
    first_no_more (path_end.Value v) (key ∷ path) ls le = container_no_more (tree.starts_array ls) ls
    first_no_more (path_end.Table ms) [] ls le = container_no_more (tree.starts_array ls) ls
    first_no_more (path_end.Table ms) (key ∷ path) ls le = container_no_more (tree.starts_array ls) ls
    first_no_more (path_end.Element ms) [] ls le = container_no_more (tree.starts_array ls) ls
    first_no_more (path_end.Element ms) (key ∷ path) ls le = container_no_more (tree.starts_array ls) ls

    value_no_more : (ls : List Line) → weight (tree.value_of_lines make ls) ≤ lines_weight ls
    unfolding tree.value_of_lines
    value_no_more [] = container_no_more false []
    value_no_more (l ∷ ls) = first_no_more l.path_end l.path (l ∷ ls) (omega arith)

    entries_no_more : (ns : List (List ℕ)) (ss : List (List ℕ × Line))
        → entries_weight (map (tree.entry_of make) (map (λ n. (n, tree.lines_through n ss)) ns)) ≤ through_weight ns ss
    entries_no_more [] ss = omega arith
    entries_no_more (n ∷ ns) ss = omega (arith, value_no_more (tree.lines_through n ss), entries_no_more ns ss)

    groups_no_more : (ls : List Line) → table_weight (table_with
        (map (tree.entry_of make) (tree.groups (tree.steps ls)))) ≤ lines_weight ls
    unfolding tree.groups
    groups_no_more ls =
        let ss = tree.steps ls in
        let es = map (tree.entry_of make) (map (λ n. (n, tree.lines_through n ss)) (tree.names ss)) in
        omega (
          arith,
          ap entries_weight (entries_are es),
          entries_no_more (tree.names ss) ss,
          names_weight
              (tree.names ss) ss (names_ascend ss),
          all_steps_weight ls,
        )

  tables_no_more : (n : ℕ) → IsNoMore (tree.table n)
  unfolding tree.table
  tables_no_more zero ls = omega (arith, ap entries_weight (entries_are []))
  tables_no_more (suc n) ls = groups_no_more (tree.table n) (tables_no_more n) ls

  table_of_no_more : IsNoMore tree.table_of
  unfolding tree.table_of
  table_of_no_more ls = tables_no_more (tree.depth ls) ls

  -- the keys of an inline table
  pub members_no_more : (span : Span) (ms : List TableMember) → table_weight (tree.table_of_members span ms)
      ≤ members_weight
      ms
  members_no_more span ms = omega (arith, table_of_no_more (tree.line_at span [] (path_end.Table ms) ∷ []))

  -- ---- a document

  abbrev pub assigned_weight : TomlExpression → ℕ
  assigned_weight (expression.Assignment a) = weight (tree.written_value (assigned_value a))
  assigned_weight (expression.Header h) = 0

  abbrev pub document_weight : List TomlExpression → ℕ
  document_weight [] = 0
  document_weight (e ∷ es) = assigned_weight e + document_weight es

  header_end_weight : (b : Bool) (ms : List TableMember) → end_weight (tree.header_end b ms) ≡ members_weight ms
  header_end_weight true ms = refl
  header_end_weight false ms = refl

  -- each assignment belongs to one line
  lines_no_more : (span : Span) (es : List TomlExpression) → members_weight (tree.leading es) + lines_weight
      (tree.header_lines span es) ≤ document_weight es
  unfolding tree.leading tree.header_lines
  lines_no_more span [] = omega arith
  lines_no_more span (expression.Assignment a ∷ es) = omega (arith, lines_no_more span es)
  lines_no_more span (expression.Header h ∷ es) = omega (
    arith,
    header_end_weight h.is_array (tree.leading es),
    lines_no_more span es,
  )

  pub tree_no_more : (span : Span) (es : List TomlExpression) → weight (tree.tree span es) ≤ document_weight es
  tree_no_more span es = omega (
    arith,
    table_no_more tree.table_of table_of_no_more (tree.lines span es),
    lines_no_more
        span es,
  )
