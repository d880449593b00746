-- A property of the keys and the values of expressions holds of the keys and the values of their tree.
use Rattle.std.proofs.Common.{◌≡◌, ℕ, zero, suc, Bool, true, false, ◌||◌, List, [], ◌∷◌, ◌++◌, map, fold, Option, Some}
use Rattle.std.proofs.Common.{None, refl, sym, ap, subst, ◌∙◌, inl, inr, append_assoc}
use Rattle.std.proofs.lemmas.Bool.{cases_Bool, false≢true, or_right}
use Rattle.std.proofs.lemmas.List.Elements.{All-nil, All-head, All-tail, recursion_from_All}
use Rattle.std.proofs.lemmas.List.Folds.{list_any-append}
use Rattle.std.proofs.lemmas.Map.Views.{All-insert_key}
use Rattle.std.specs.Prelude.{All, IfSome, nat_eq}
use Rattle.std.specs.List.{AllByRecursion, list_any, flat_map}
use Rattle.std.specs.BTreeSet.{insert_key}
use Rattle.std.specs.Cmp.Lexicographic.{slice_cmp, pointwise, same_text, other_text}
use Rattle.std.specs.Ordering.{nat_cmp}
use Rattle.deny_base_lists.proofs.Each.{all_append}
use Rattle.deny_base.specs.declared.span.Span.{Span}
use Rattle.deny_toml_grammar.specs.declared.parts.Key.{Key}
use Rattle.deny_toml_grammar.specs.declared.parts.Scalar.{Scalar}
use Rattle.deny_toml_tree.specs.declared.value.Value.{Value}
use Rattle.deny_toml_tree.specs.declared.value.Table.{Table}
use Rattle.deny_toml_tree.specs.declared.value.Content.{Content}
use Rattle.deny_toml_tree.specs.declared.value.Content.TheOpen.{Content-F}
use Rattle.deny_toml_tree.specs.declared.value.Content.TheViews.{roll-Content, out-Content, out-roll-Content}
use Rattle.deny_toml_tree.specs.declared.value.Content.TheViews.{out-roll-Value}
use Rattle.deny_toml_tree.specs.declared.value.Content.TheViews.{out-roll-Table}
use Rattle.deny_toml_tree.specs.declared.value.Content.TheVariants as content
use Rattle.deny_toml_grammar.specs.declared.expression.Written.{Written, fold_out-Written}
use Rattle.deny_toml_grammar.specs.declared.expression.WrittenContent.{WrittenContent, fold-WrittenContent}
use Rattle.deny_toml_grammar.specs.declared.expression.WrittenContent.{fold_out-WrittenContent, map-WrittenContent}
use Rattle.deny_toml_grammar.specs.declared.expression.Assignment.{Assignment, fold-Assignment, fold_out-Assignment}
use Rattle.deny_toml_grammar.specs.declared.expression.TomlExpression.{TomlExpression}
use Rattle.deny_toml_grammar.specs.declared.expression.TomlExpression.TheVariants as expression
use Rattle.deny_toml_tree.specs.declared.lines.Line.{Line}
use Rattle.deny_toml_tree.specs.declared.lines.TableMember.{TableMember}
use Rattle.deny_toml_tree.specs.declared.lines.PathEnd.{PathEnd}
use Rattle.deny_toml_tree.specs.declared.lines.PathEnd.TheVariants as path_end
use Rattle.deny_toml_grammar.specs.Expression.{span_of}
use Rattle.deny_toml_tree.specs.Value.{value_with, span_in, table_with, entries_in}
use Rattle.deny_toml_tree.specs.Calls.{Layer, layer_in, scalar_of}
use Rattle.deny_toml_grammar.specs.Expression.{written_span, written_content, assigned_path, assigned_value}
use Rattle.deny_toml_grammar.specs.Spans.{WrittenLayer, written_layer, written_scalar, AllOfWritten, AllOfLayer}
use Rattle.deny_toml_grammar.specs.Spans.{AllOfElements, AllOfMembers, AllOfAssignment, AllOfExpression, AllOf}
use Rattle.deny_toml_tree.specs.Spans.{AllOfValue, AllOfContent, AllOfValues, AllOfEntries}
use Rattle.deny_toml_grammar.specs.Spans as written_spans
use Rattle.deny_toml_tree.specs.Spans as spans
use Rattle.deny_toml_tree.specs.Tree.{step, member_steps, end_steps, line_steps, steps, names, lines_through, groups}
use Rattle.deny_toml_tree.specs.Tree.{slot_span, is_element, starts_array, assigned, end_as_table, until_element}
use Rattle.deny_toml_tree.specs.Tree.{elements}
use Rattle.deny_toml_tree.specs.Tree.{table_value, array_value, value_or, value_of_lines, entry_of, table, depth}
use Rattle.deny_toml_tree.specs.Tree.{table_of}
use Rattle.deny_toml_tree.specs.Tree.{table_of_members, line_at, content_step, member_step, value_step, written_value}
use Rattle.deny_toml_tree.specs.Tree.{written_member, leading, header_end, header_lines, lines, tree}

-- ---- the names that lines lead through

abbrev leads_to : List ℕ → List ℕ × Line → Bool
leads_to name s = pointwise nat_eq s.0 name

-- some line leads through the name
abbrev IsLedTo : List (List ℕ × Line) → List ℕ → Type 0
IsLedTo seen name = list_any (leads_to name) seen ≡ true

same_name : (name : List ℕ) → pointwise nat_eq name name ≡ true
same_name name = elim (cases_Bool (pointwise nat_eq name name))
    [ inl same ↦ same | inr other ↦ absurd (other_text name name (sym other) refl) ]

own_names : (prefix seen : List (List ℕ × Line)) → AllByRecursion (λ s. IsLedTo (prefix ++ seen) s.0) seen
own_names prefix [] = tt
own_names prefix (s ∷ seen) =
    let first : (leads_to s.0 s || list_any (leads_to s.0) seen) ≡ true = rw (same_name s.0) refl in
    let here : IsLedTo (prefix ++ s ∷ seen) s.0 = list_any-append (leads_to s.0) prefix (s ∷ seen)
    ∙ or_right (list_any (leads_to s.0) prefix) (leads_to s.0 s || list_any (leads_to s.0) seen) first in (
      here,
      subst (λ all. AllByRecursion (λ t. IsLedTo all t.0) seen) (append_assoc prefix (s ∷ []) seen)
          (own_names (prefix ++ s ∷ []) seen),
    )

names_from : (all seen : List (List ℕ × Line)) (found : List (List ℕ)) → All (IsLedTo all) found
    → AllByRecursion (λ s. IsLedTo all s.0) seen
    → All (IsLedTo all) (fold (λ names s. insert_key (slice_cmp nat_cmp) names s.0) found seen)
names_from all [] found before own = before
names_from all (s ∷ seen) found before own =
    names_from all seen (insert_key (slice_cmp nat_cmp) found s.0)
    (All-insert_key (slice_cmp nat_cmp) s.0 (IsLedTo all) found before own.0) own.1

names_led : (seen : List (List ℕ × Line)) → AllByRecursion (IsLedTo seen) (names seen)
unfolding names
names_led seen = recursion_from_All (IsLedTo seen) _ (names_from seen seen [] (All-nil (IsLedTo seen))
    (own_names [] seen))

module _ (K : Key → Type 0) (R : Span → Option Scalar → Type 0) where
  -- the property holds in a value of a tree, at any depth
  abbrev Holds : Value → Type 0
  Holds v = R (span_in v) (scalar_of (layer_in v))

  -- the property holds in a written value, at any depth
  abbrev HoldsWritten : Written → Type 0
  HoldsWritten w = R (written_span w) (written_scalar (written_layer w))

  abbrev AllOk : Value → Type 0
  AllOk v = AllOfValue K Holds v

  all_made : (span : Span) (what : Content) (layer : Layer) → roll-Content layer ≡ what → R span (scalar_of layer)
      → AllOfContent K Holds layer → AllOk (value_with span what)
  all_made span what layer same here below =
      let parts = out-roll-Value (record { span = span; content = what }) in
      let span_is : span_in (value_with span what) ≡ span = ap (λ r. r.span) parts in
      let layer_is : layer_in (value_with span what) ≡ layer = ap (λ r. out-Content r.content) parts
      ∙ ap out-Content (sym same) ∙ out-roll-Content layer in
      spans.value (value_with span what)
      (subst (λ s. R s (scalar_of (layer_in (value_with span what)))) (sym span_is)
      (subst (λ l. R span (scalar_of l)) (sym layer_is) here))
      (subst (AllOfContent K Holds) (sym layer_is) below)

  table_made : (span : Span) (t : Table) → R span None → AllOfEntries K Holds (entries_in t)
      → AllOk (value_with span (content.Table t))
  table_made span t lies below = all_made span (content.Table t) (Content-F.Table t) (content.rolls-Table t) lies
      (spans.table_content t below)

  entries_made : (es : List (Key × Value)) → AllOfEntries K Holds es → AllOfEntries K Holds (entries_in (table_with es))
  entries_made es all = subst (AllOfEntries K Holds) (sym (ap (λ r. r.entries)
      (out-roll-Table (record { entries = es })))) all

  -- the property holds of lines and of their parts
  abbrev MemberOk : TableMember → Type 0
  MemberOk m = AllByRecursion K m.path × AllOk m.value

  abbrev PutOk : PathEnd → Type 0
  PutOk (path_end.Value v) = AllOk v
  PutOk (path_end.Table members) = AllByRecursion MemberOk members
  PutOk (path_end.Element members) = AllByRecursion MemberOk members

  abbrev LineOk : Line → Type 0
  LineOk line = R line.at None × AllByRecursion K line.path × PutOk line.path_end

  -- the next part of a line is a key of the expressions
  abbrev StepOk : List ℕ × Line → Type 0
  StepOk s = K (record { name = s.0; span = s.1.at }) × LineOk s.1

  abbrev GroupOk : List ℕ × List Line → Type 0
  GroupOk g = K (record { name = g.0; span = slot_span g.1 }) × AllByRecursion LineOk g.1

  put_as_table_ok : (p : PathEnd) → PutOk p → PutOk (end_as_table p)
  put_as_table_ok (path_end.Value v) ok = ok
  put_as_table_ok (path_end.Table members) ok = ok
  put_as_table_ok (path_end.Element members) ok = ok

  until_ok : (ls : List Line) → AllByRecursion LineOk ls → AllByRecursion LineOk (until_element ls)
  unfolding until_element
  until_ok [] ok = tt
  until_ok (line ∷ ls) ok =
      elim (cases_Bool (is_element line)) [
        | inl is ↦ rw is tt
        | inr other ↦ rw other (ok.0, until_ok ls ok.1)
      ]

  elements_ok : (ls : List Line) → AllByRecursion LineOk ls → AllByRecursion (AllByRecursion LineOk) (elements ls)
  unfolding elements
  elements_ok [] ok = tt
  elements_ok (line ∷ ls) ok =
      elim (cases_Bool (is_element line)) [
        | inl is ↦ rw is (
          ((ok.0.0, ok.0.1, put_as_table_ok line.path_end ok.0.2), until_ok ls ok.1),
          elements_ok ls
              ok.1,
        )
        | inr other ↦ rw other (elements_ok ls ok.1)
      ]

  through_ok : (name : List ℕ) (seen : List (List ℕ × Line)) → AllByRecursion StepOk seen
      → AllByRecursion LineOk (lines_through name seen)
  unfolding lines_through
  through_ok name [] ok = tt
  through_ok name (s ∷ seen) ok =
      elim (cases_Bool (pointwise nat_eq s.0 name)) [
        | inl same ↦ rw same (ok.0.1, through_ok name seen ok.1)
        | inr other ↦ rw other (through_ok name seen ok.1)
      ]

  first_through : (name : List ℕ) (seen : List (List ℕ × Line)) → AllByRecursion StepOk seen → IsLedTo seen name
      → K (record { name = name; span = slot_span (lines_through name seen) })
  unfolding lines_through
  first_through name [] ok led = absurd (false≢true led)
  first_through name (s ∷ seen) ok led =
      elim (cases_Bool (pointwise nat_eq s.0 name)) [
        | inl same ↦ rw same (subst (λ n. K (record { name = n; span = s.1.at })) (same_text s.0 name (sym same))
            ok.0.0)
        | inr other ↦ rw other (first_through name seen ok.1 (rw other at led))
      ]

  groups_ok : (seen : List (List ℕ × Line)) → AllByRecursion StepOk seen → AllByRecursion GroupOk (groups seen)
  unfolding groups
  groups_ok seen ok = of_names (names seen) (names_led seen)
    where
      of_names : (ns : List (List ℕ)) → AllByRecursion (IsLedTo seen) ns
          → AllByRecursion GroupOk (map (λ name. (name, lines_through name seen)) ns)
      of_names [] led = tt
      of_names (name ∷ ns) led = ((first_through name seen ok led.0, through_ok name seen ok), of_names ns led.1)

  module _ (lies : (key : Key) → K key → R key.span None) (start : R (span_of 0 0) None) where
    step_ok : (key : Key) (path : List Key) (p : PathEnd) → K key → AllByRecursion K path → PutOk p
        → StepOk (step key path p)
    step_ok key path p here keys ok = (here, (lies key here, keys, ok))

    member_steps_ok : (v : Value) (path : List Key) → AllByRecursion K path → AllOk v
        → AllByRecursion StepOk (member_steps v path)
    member_steps_ok v [] keys ok = tt
    member_steps_ok v (key ∷ path) keys ok = (step_ok key path (path_end.Value v) keys.0 keys.1 ok, tt)

    members_steps_ok : (ms : List TableMember) → AllByRecursion MemberOk ms
        → AllByRecursion StepOk (flat_map (λ m. member_steps m.value m.path) ms)
    members_steps_ok [] ok = tt
    members_steps_ok (m ∷ ms) ok =
        all_append StepOk (member_steps m.value m.path) (flat_map (λ x. member_steps x.value x.path) ms)
        (member_steps_ok m.value m.path ok.0.0 ok.0.1) (members_steps_ok ms ok.1)

    put_steps_ok : (p : PathEnd) → PutOk p → AllByRecursion StepOk (end_steps p)
    put_steps_ok (path_end.Value v) ok = tt
    put_steps_ok (path_end.Table members) ok = members_steps_ok members ok
    put_steps_ok (path_end.Element members) ok = tt

    line_steps_ok : (p : PathEnd) (path : List Key) → AllByRecursion K path → PutOk p
        → AllByRecursion StepOk (line_steps p path)
    line_steps_ok p [] keys ok = put_steps_ok p ok
    line_steps_ok p (key ∷ path) keys ok = (step_ok key path p keys.0 keys.1 ok, tt)

    steps_ok : (ls : List Line) → AllByRecursion LineOk ls → AllByRecursion StepOk (steps ls)
    unfolding steps
    steps_ok [] ok = tt
    steps_ok (line ∷ ls) ok =
        all_append StepOk (line_steps line.path_end line.path) (flat_map (λ x. line_steps x.path_end x.path) ls)
        (line_steps_ok line.path_end line.path ok.0.1 ok.0.2) (steps_ok ls ok.1)

    slot_span_ok : (ls : List Line) → AllByRecursion LineOk ls → R (slot_span ls) None
    slot_span_ok [] ok = start
    slot_span_ok (line ∷ ls) ok = ok.0.0

    assigned_ok : (ls : List Line) → AllByRecursion LineOk ls → IfSome (assigned ls) AllOk
    assigned_ok [] ok = tt
    assigned_ok (line ∷ ls) ok = of_put line.path_end line.path ok.0.2
      where
        of_put : (p : PathEnd) (path : List Key) → PutOk p → IfSome (assigned (line_at line.at path p ∷ [])) AllOk
        of_put (path_end.Value v) [] ok = ok
        of_put (path_end.Value v) (key ∷ path) ok = tt
        of_put (path_end.Table members) path ok = tt
        of_put (path_end.Element members) path ok = tt

    -- tables of lines with the property have entries with the property
    abbrev TablesOk : (List Line → Table) → Type 0
    TablesOk make = (ls : List Line) → AllByRecursion LineOk ls → AllOfEntries K Holds (entries_in (make ls))

    table_value_ok : (make : List Line → Table) → TablesOk make → (ls : List Line) → AllByRecursion LineOk ls
        → AllOk (table_value make ls)
    table_value_ok make tables ls ok = table_made (slot_span ls) (make ls) (slot_span_ok ls ok) (tables ls ok)

    table_values_ok : (make : List Line → Table) → TablesOk make → (parts : List (List Line))
        → AllByRecursion (AllByRecursion LineOk) parts
        → AllOfValues K Holds (map (table_value make) parts)
    table_values_ok make tables [] ok = spans.no_values
    table_values_ok make tables (ls ∷ parts) ok =
        spans.values (table_value make ls) (map (table_value make) parts) (table_value_ok make tables ls ok.0)
        (table_values_ok make tables parts ok.1)

    array_value_ok : (make : List Line → Table) → TablesOk make → (ls : List Line) → AllByRecursion LineOk ls
        → AllOk (array_value make ls)
    array_value_ok make tables ls ok =
        let vs = map (table_value make) (elements ls) in
        all_made (slot_span ls) (content.Array vs) (Content-F.Array vs) (content.rolls-Array vs) (slot_span_ok ls ok)
        (spans.array_content vs (table_values_ok make tables (elements ls) (elements_ok ls ok)))

    value_of_ok : (make : List Line → Table) → TablesOk make → (ls : List Line) → AllByRecursion LineOk ls
        → AllOk (value_of_lines make ls)
    unfolding value_of_lines
    value_of_ok make tables ls ok = by_first (assigned ls) (assigned_ok ls ok)
      where
        by_first : (o : Option Value) → IfSome o AllOk → AllOk (value_or make o ls)
        by_first (Some v) so = so
        by_first None so =
            elim (cases_Bool (starts_array ls)) [
              | inl is ↦ rw is (array_value_ok make tables ls ok)
              | inr other ↦ rw other (table_value_ok make tables ls ok)
            ]

    entries_ok : (make : List Line → Table) → TablesOk make → (gs : List (List ℕ × List Line))
        → AllByRecursion GroupOk gs → AllOfEntries K Holds (map (entry_of make) gs)
    entries_ok make tables [] ok = spans.no_entries
    entries_ok make tables (g ∷ gs) ok =
        spans.entries (record { name = g.0; span = slot_span g.1 }) (value_of_lines make g.1) (map (entry_of make) gs)
        ok.0.0 (value_of_ok make tables g.1 ok.0.1)
        (entries_ok make tables gs ok.1)

    tables_ok : (n : ℕ) → TablesOk (table n)
    unfolding table
    tables_ok zero ls ok = entries_made [] spans.no_entries
    tables_ok (suc n) ls ok =
        entries_made (map (entry_of (table n)) (groups (steps ls)))
        (entries_ok (table n) (tables_ok n) (groups (steps ls)) (groups_ok (steps ls) (steps_ok ls ok)))

    table_of_ok : TablesOk table_of
    unfolding table_of
    table_of_ok ls ok = tables_ok (depth ls) ls ok

    -- ---- written values

    abbrev fold_content : WrittenContent → Span → Content
    fold_content = fold-WrittenContent (Span → Content) TableMember Value content_step member_step value_step

    abbrev fold_member : Assignment → TableMember
    fold_member = fold-Assignment (Span → Content) TableMember Value content_step member_step value_step

    abbrev value_of_layer : Span → WrittenLayer → Value
    value_of_layer span layer = value_with span (content_step
        (map-WrittenContent WrittenContent Assignment Written (Span → Content) TableMember Value fold_content
        fold_member
        written_value layer) span)

    written_value-layer : (w : Written) → written_value w ≡ value_of_layer (written_span w) (written_layer w)
    written_value-layer w =
        fold_out-Written (Span → Content) TableMember Value content_step member_step value_step w
        ∙ ap (λ c. value_with (written_span w) (c (written_span w)))
        (fold_out-WrittenContent (Span → Content) TableMember Value content_step member_step value_step
        (written_content w))

    mutual
      written_ok : (w : Written) → AllOfWritten K HoldsWritten w → AllOk (written_value w)
      written_ok w (written_spans.written _ here below) = subst AllOk (sym (written_value-layer w))
          (layer_ok (written_span w) (written_layer w) here below)

      layer_ok : (span : Span) (layer : WrittenLayer) → R span (written_scalar layer) → AllOfLayer K HoldsWritten layer
          → AllOk (value_of_layer span layer)
      layer_ok span layer here (written_spans.no_parts s) =
          all_made span (content.Scalar s) (Content-F.Scalar s) (content.rolls-Scalar s) here (spans.scalar_content s)
      layer_ok span layer here (written_spans.array ws all) =
          all_made span (content.Array (map written_value ws)) (Content-F.Array (map written_value ws))
          (content.rolls-Array (map written_value ws)) here
          (spans.array_content (map written_value ws) (elements_written ws all))
      layer_ok span layer here (written_spans.inline_table ms all) =
          table_made span (table_of_members span (map fold_member ms)) here
          (table_of_ok (line_at span [] (path_end.Table (map fold_member ms)) ∷ []) ((here, tt, members_ok ms all), tt))

      elements_written : (ws : List Written) → AllOfElements K HoldsWritten ws
          → AllOfValues K Holds (map written_value ws)
      elements_written ws written_spans.no_elements = spans.no_values
      elements_written ws (written_spans.elements w more here all) =
          spans.values (written_value w) (map written_value more) (written_ok w here) (elements_written more all)

      members_ok : (ms : List Assignment) → AllOfMembers K HoldsWritten ms
          → AllByRecursion MemberOk (map fold_member ms)
      members_ok ms written_spans.no_members = tt
      members_ok ms (written_spans.members a more here all) = (member_ok a here, members_ok more all)

      member_ok : (a : Assignment) → AllOfAssignment K HoldsWritten a → MemberOk (fold_member a)
      member_ok a (written_spans.assignment _ keys v) =
          subst MemberOk (sym (fold_out-Assignment (Span → Content) TableMember Value content_step member_step
          value_step a))
          (recursion_from_All K (assigned_path a) keys, written_ok (assigned_value a) v)

    written_member_ok : (a : Assignment) → AllOfAssignment K HoldsWritten a → MemberOk (written_member a)
    written_member_ok a (written_spans.assignment _ keys v) =
        (recursion_from_All K (assigned_path a) keys, written_ok (assigned_value a) v)

    -- ---- the lines of a document

    abbrev AllExpressions : List TomlExpression → Type 0
    AllExpressions es = AllOf K HoldsWritten es

    leading_ok : (es : List TomlExpression) → AllExpressions es → AllByRecursion MemberOk (leading es)
    unfolding leading
    leading_ok [] all = tt
    leading_ok (expression.Assignment a ∷ es) all = (
      written_member_ok a (All-head (AllOfExpression K HoldsWritten) (expression.Assignment a) es all),
      leading_ok es (All-tail (AllOfExpression K HoldsWritten) (expression.Assignment a) es all),
    )
    leading_ok (expression.Header h ∷ es) all = tt

    header_end_ok : (is_array : Bool) (ms : List TableMember) → AllByRecursion MemberOk ms
        → PutOk (header_end is_array ms)
    header_end_ok true ms ok = ok
    header_end_ok false ms ok = ok

    header_lines_ok : (span : Span) → R span None → (es : List TomlExpression) → AllExpressions es
        → AllByRecursion LineOk (header_lines span es)
    unfolding header_lines
    header_lines_ok span here [] all = tt
    header_lines_ok span here (expression.Assignment a ∷ es) all =
        header_lines_ok span here es (All-tail (AllOfExpression K HoldsWritten) (expression.Assignment a) es all)
    header_lines_ok span here (expression.Header h ∷ es) all =
        let more = All-tail (AllOfExpression K HoldsWritten) (expression.Header h) es all in (
          (
            here,
            recursion_from_All K h.path (All-head (AllOfExpression K HoldsWritten) (expression.Header h) es all),
            header_end_ok h.is_array (leading es) (leading_ok es more),
          ),
          header_lines_ok span here es more,
        )

    pub tree_ok : (span : Span) → R span None → (es : List TomlExpression) → AllExpressions es
        → AllOfValue K Holds (tree span es)
    tree_ok span here es all =
        table_value_ok table_of table_of_ok (lines span es) (
          (here, tt, leading_ok es all),
          header_lines_ok span here es
              all,
        )
